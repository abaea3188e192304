-- `brake::run_towards` meets its contract: refused by what is judged before anything is computed, refused by a computed number with its place, or run through.
use Prim.Native.Nat.{◌≤◌}
use mathlib.Core.Path.{ap, ◌∙◌, refl}
use native.Mathlib.Omega.{arith}
use borrow.Author.Rules.{rules}
use borrow.Author.Tests.{not-true, not-false}
use lib.ListN.{length}
use lib.Ieee.{binary64}
use Rattle.checked.specs.Each.{at, over}
use Rattle.refusal.specs.Chain.{refuses_by, passes_by}
use Rattle.conformal.specs.Of.{tables}
use Rattle.envelope.proofs.Accepted.{compiled_judged, compiled_derived}
use Rattle.brake.specs.Of.{workspace_from}
use Rattle.brake.proofs.Towards.{lends, refused, done-within, failed, ran-through}
use Rattle.brake.proofs.run_towards.Goals as goal

pub returns-in_err-run_refusal : goal.returns-in_err-run_refusal
returns-in_err-run_refusal c =
    let why = refuses_by (c.run_refusal.ensures _ (compiled_judged c.compile-compiled.ensures)) c.in_err-run_refusal.was in
    let r = c in
    let g = r.args in
    let w = refused binary64 g.c (tables g.center.now g.scale.now) g.setpoint.now g.pos.now g.vel.now g.n g.slack.now refl why.0 why.1 in
    (grind (arith, w.gives, c.from_residual.ensures), w.slacks, w.position, w.velocity)

pub run_of-run-requires : goal.run_of-run-requires
run_of-run-requires c =
    let e = c in
    let r = e in
    let g = r.args in
    ((lends binary64 c.args.c (tables c.args.center.now c.args.scale.now) c.args.setpoint.now c.args.pos.now c.args.vel.now c.args.n (length c.args.slack.now) (passes_by (c.run_refusal.ensures _ (compiled_judged c.compile-compiled.ensures)) c.in_ok-run_refusal.was)), c.workspace_of-w.ensures ∙ ap (workspace_from g.c.shape) (compiled_derived r.compile-compiled.ensures))

pub overflow_add-result : goal.overflow_add-result
overflow_add-result c =
    let q = c in
    let e = q in
    let s = e in
    let g = s.args in
    let within : q.run_of-run.result.done ≤ length g.slack.now = omega (arith, (lends binary64 c.args.c (tables c.args.center.now c.args.scale.now) c.args.setpoint.now c.args.pos.now c.args.vel.now c.args.n (length c.args.slack.now) (passes_by (c.run_refusal.ensures _ (compiled_judged c.compile-compiled.ensures)) c.in_ok-run_refusal.was)).space, done-within binary64 g.c (tables g.center.now g.scale.now) g.setpoint.now g.pos.now g.vel.now g.n g.slack.now (passes_by (c.run_refusal.ensures _ (compiled_judged c.compile-compiled.ensures)) c.in_ok-run_refusal.was) q.run_of-run.ensures.0) in
    search (rules, within, s.well_formed.1.1.1.1.1.1.1.0)

pub returns-then-not-run : goal.returns-then-not-run
returns-then-not-run c =
    let q = c in
    let e = q in
    let g = e.args in
    let w = failed binary64 g.c (tables g.center.now g.scale.now) g.setpoint.now g.pos.now g.vel.now g.n g.slack.now (passes_by (c.run_refusal.ensures _ (compiled_judged c.compile-compiled.ensures)) c.in_ok-run_refusal.was) q.run_of-run.ensures.0 q.run_of-run.ensures.1 (not-true _ c.if-not-run.true) in
    (w.gives, w.slacks, w.position, w.velocity)

pub put_plant-requires : goal.put_plant-requires
put_plant-requires c =
    let fits = (lends binary64 c.args.c (tables c.args.center.now c.args.scale.now) c.args.setpoint.now c.args.pos.now c.args.vel.now c.args.n (length c.args.slack.now) (passes_by (c.run_refusal.ensures _ (compiled_judged c.compile-compiled.ensures)) c.in_ok-run_refusal.was)) in
    let live = c.fewer-live.ensures in
    (omega (arith, live, fits.narrow), omega (arith, live, fits.places), omega (arith, live, fits.rates))

pub returns : goal.returns
returns c =
    let q = c in
    let e = q in
    let g = e.args in
    let live = c.fewer-live.ensures in
    let put = c.put_plant.ensures in
    let end = q.run_of-run.result.plant in
    let w = ran-through binary64 g.c (tables g.center.now g.scale.now) g.setpoint.now g.pos.now g.vel.now g.n g.slack.now (passes_by (c.run_refusal.ensures _ (compiled_judged c.compile-compiled.ensures)) c.in_ok-run_refusal.was) q.run_of-run.ensures.0 q.run_of-run.ensures.1 (not-false _ c.if-not-run.false)
    (put.0 ∙ ap (over (at end.p) g.pos.now) live)
    (put.1 ∙ ap (over (at end.v) g.vel.now) live) in
    (w.gives, w.slacks, w.position, w.velocity)
