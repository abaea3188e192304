-- `stopping::d_stop` meets its contract, kind by kind.
use Rattle.std.proofs.Common.{arith}
use mathlib.Core.Path.{sym, ap, ◌∙◌}
use lib.Ieee.{binary64, of_bits}
use Rattle.envelope.specs.declared.BrakeKind.{BrakeKind}
use Rattle.stopping.specs.Rule.{d_stop}
use Rattle.checked.specs.Of.{reckoned_from}
use Rattle.stopping.proofs.d_stop.Goals as goal

pub returns-in-PdSecondOrder : goal.returns-in-PdSecondOrder
unfolding d_stop of_bits
returns-in-PdSecondOrder c = let s = c.args in sym (ap (λ (b : BrakeKind). reckoned_from (d_stop binary64 b s.a s.j s.s)) c.in-PdSecondOrder.is)

pub returns-in-FirstOrderDecay : goal.returns-in-FirstOrderDecay
unfolding d_stop
returns-in-FirstOrderDecay c = let s = c.args in c.quotient.ensures ∙ sym (ap (λ (b : BrakeKind). reckoned_from (d_stop binary64 b s.a s.j s.s)) c.in-FirstOrderDecay.is)

pub returns-in-BoundedAccel : goal.returns-in-BoundedAccel
unfolding d_stop
returns-in-BoundedAccel c = grind arith

pub returns-in-JerkLimited : goal.returns-in-JerkLimited
unfolding d_stop
returns-in-JerkLimited c = let s = c.args in rw (c.sum.ensures, c.ease.ensures, c.ramp-in-JerkLimited.ensures) (sym (ap (λ (b : BrakeKind). reckoned_from (d_stop binary64 b s.a s.j s.s)) c.in-JerkLimited.is))
