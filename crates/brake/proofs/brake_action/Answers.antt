-- `brake::brake_action` meets its contract: refused before the row is computed, refused by a computed number, or written.
use Rattle.std.specs.Prelude.{Ok}
use mathlib.Core.Path.{◌≡◌, ap, ◌∙◌, refl}
use mathlib.Core.Bool.{Bool, not, ◌||◌}
use borrow.Author.Tests.{not-true, not-false}
use native.Mathlib.Omega.{arith}
use lib.ListN.{length}
use lib.Ieee.{binary64}
use Rattle.refusal.specs.Chain.{refuses_by, passes_by, when_passed, when_refused}
use Rattle.conformal.specs.Of.{tables}
use Rattle.envelope.proofs.Accepted.{compiled_judged, compiled_derived}
use Rattle.brake.specs.Answer.{masks_sent, brake_sent, brake_answer, brake_output}
use Rattle.brake.specs.Of.{workspace_from}
use Rattle.brake.proofs.Sending.{masks_are_sent, sized, row_refused, row_unsound, row_done, brake_judged, brake_is_sent}
use borrow.Author.Rules.{rules}
use Rattle.brake.proofs.brake_action.Goals as goal

either : {a b d x y z : Bool} → a ≡ x → b ≡ y → d ≡ z → (not a || not b || d) ≡ (not x || not y || z)
either g h i = rw (g, h, i)

pub returns-in_err-row_refusal : goal.returns-in_err-row_refusal
unfolding brake_answer brake_output
returns-in_err-row_refusal c =
    let why = refuses_by (c.row_refusal.ensures _ (compiled_judged c.compile-compiled.ensures)) c.in_err-row_refusal.was in
    let n = c in
    let g = n.args in
    let t = tables g.center.now g.scale.now in
    let w = row_refused binary64 g.c t (length g.last.now) g.out.now (either n.all_finite.ensures n.all_finite-2.ensures n.last_unfit.ensures) (brake_sent binary64 g.c g.pos.now g.vel.now g.last.now) (Ok (masks_sent binary64 g.c g.pos.now)) (brake_judged binary64 g.c g.pos.now g.vel.now g.last.now t (length g.out.now)) refl why.0 why.1 in
    (grind (arith, w.gives, c.from_residual.ensures), w.leaves)

pub brake_row-made-requires : goal.brake_row-made-requires
brake_row-made-requires c =
    let n = c in
    let g = n.args in
    let t = tables g.center.now g.scale.now in
    (sized binary64 g.c t (not n.all_finite.result || not n.all_finite-2.result || n.last_unfit.result) (length g.out.now) (length g.last.now) (passes_by (c.row_refusal.ensures _ (compiled_judged c.compile-compiled.ensures)) c.in_ok-row_refusal.was)).0

pub sent_row-row-requires : goal.sent_row-row-requires
sent_row-row-requires c =
    let n = c in
    let g = n.args in
    let t = tables g.center.now g.scale.now in
    let sizes = sized binary64 g.c t (not n.all_finite.result || not n.all_finite-2.result || n.last_unfit.result) (length g.out.now) (length g.last.now) (passes_by (c.row_refusal.ensures _ (compiled_judged c.compile-compiled.ensures)) c.in_ok-row_refusal.was) in
    (sizes.0, sizes.2)

pub returns-in_err-when : goal.returns-in_err-when
unfolding brake_answer brake_output
returns-in_err-when c =
    let why = when_refused 13 (not c.sent_row-row.result.sound) c.in_err-when.ensures in
    let r = c in
    let e = r in
    let n = e in
    let g = n.args in
    let t = tables g.center.now g.scale.now in
    let walls = e.workspace_of-w.ensures ∙ ap (workspace_from g.c.shape) (compiled_derived n.compile-compiled.ensures) in
    let w = row_unsound binary64 g.c t (length g.last.now) g.out.now (either n.all_finite.ensures n.all_finite-2.ensures n.last_unfit.ensures) (brake_sent binary64 g.c g.pos.now g.vel.now g.last.now) (Ok (masks_sent binary64 g.c g.pos.now)) (brake_judged binary64 g.c g.pos.now g.vel.now g.last.now t (length g.out.now)) (passes_by (c.row_refusal.ensures _ (compiled_judged c.compile-compiled.ensures)) c.in_ok-row_refusal.was) (brake_is_sent binary64 g.c g.pos.now g.vel.now g.last.now walls r.brake_row-made.ensures r.sent_row-row.ensures) (not-true _ why.0) why.1 in
    (grind (arith, w.gives, c.from_residual-in_err-when.ensures), w.leaves)

pub returns : goal.returns
unfolding brake_answer brake_output
returns c =
    let u = c in
    let r = u in
    let e = r in
    let n = e in
    let g = n.args in
    let t = tables g.center.now g.scale.now in
    let walls = e.workspace_of-w.ensures ∙ ap (workspace_from g.c.shape) (compiled_derived n.compile-compiled.ensures) in
    let w = row_done binary64 g.c t (length g.last.now) g.out.now (either n.all_finite.ensures n.all_finite-2.ensures n.last_unfit.ensures) (brake_sent binary64 g.c g.pos.now g.vel.now g.last.now) (Ok (masks_sent binary64 g.c g.pos.now)) (brake_judged binary64 g.c g.pos.now g.vel.now g.last.now t (length g.out.now)) (passes_by (c.row_refusal.ensures _ (compiled_judged c.compile-compiled.ensures)) c.in_ok-row_refusal.was) (brake_is_sent binary64 g.c g.pos.now g.vel.now g.last.now walls r.brake_row-made.ensures r.sent_row-row.ensures) (not-false _ (when_passed 13 (not c.sent_row-row.result.sound) c.in_ok-when.ensures)) (search rules) u.put.ensures (masks_are_sent binary64 g.c g.pos.now walls c.sent_masks.ensures) in
    (w.gives, w.leaves)
