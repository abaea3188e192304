-- `tier0::check_action` meets its contract: refused by what is lent, refused by a computed number, or passed.
use mathlib.Core.Path.{refl}
use mathlib.Core.Bool.{not}
use native.Mathlib.Omega.{arith}
use borrow.Author.Tests.{not-true, not-false}
use lib.Ieee.{binary64}
use Rattle.tier0.proofs.Refused.{checks_are, accepted_sizes, sized_checks, lent_refused, not_sound, passes}
use Rattle.refusal.specs.Chain.{refuses_by, passes_by, when_passed, when_refused}
use Rattle.conformal.specs.Of.{tables}
use Rattle.envelope.proofs.Accepted.{compiled_judged, compiled_derived}
use borrow.Author.Rules.{rules}
use Rattle.tier0.proofs.check_action.Goals as goal

pub returns-in_err-action_refusal : goal.returns-in_err-action_refusal
returns-in_err-action_refusal c =
    let g = c.args in
    let r = refuses_by (c.action_refusal.ensures _ (compiled_judged c.compile-compiled.ensures)) c.in_err-action_refusal.was in
    let w = lent_refused binary64 g.c (tables g.center.now g.scale.now) g.pos.now g.aux.now g.prev.now g.a.now g.out.now _ refl r.0 r.1 in
    (grind (arith, w.0, c.from_residual.ensures), w.1)

pub judge_action-v-requires : goal.judge_action-v-requires
judge_action-v-requires c = let g = c.args in sized_checks binary64 g.c g.a.now _ (checks_are binary64 g.c c.checks_of-s.ensures (compiled_derived c.compile-compiled.ensures)) (accepted_sizes binary64 g.c (tables g.center.now g.scale.now) g.pos.now g.aux.now g.prev.now g.a.now _ (passes_by (c.action_refusal.ensures _ (compiled_judged c.compile-compiled.ensures)) c.in_ok-action_refusal.was))

pub returns-in_err-when : goal.returns-in_err-when
returns-in_err-when c =
    let g = c.args in
    let r = when_refused 13 (not c.judge_action-v.result.sound) c.in_err-when.ensures in
    let w = not_sound binary64 g.c (tables g.center.now g.scale.now) g.pos.now g.aux.now g.prev.now g.a.now g.out.now (passes_by (c.action_refusal.ensures _ (compiled_judged c.compile-compiled.ensures)) c.in_ok-action_refusal.was) (checks_are binary64 g.c c.checks_of-s.ensures (compiled_derived c.compile-compiled.ensures)) c.judge_action-v.ensures (not-true _ r.0) r.1 in
    (grind (arith, w.0, c.from_residual-in_err-when.ensures), w.1)

pub returns : goal.returns
returns c = let g = c.args in let w = passes binary64 g.c (tables g.center.now g.scale.now) g.pos.now g.aux.now g.prev.now g.a.now g.out.now (passes_by (c.action_refusal.ensures _ (compiled_judged c.compile-compiled.ensures)) c.in_ok-action_refusal.was) (checks_are binary64 g.c c.checks_of-s.ensures (compiled_derived c.compile-compiled.ensures)) c.judge_action-v.ensures (not-false _ (when_passed 13 (not c.judge_action-v.result.sound) c.in_ok-when.ensures)) c.put.ensures (let ok = c.judge_action-v.type_inv in search rules) in (w.0, w.1)
