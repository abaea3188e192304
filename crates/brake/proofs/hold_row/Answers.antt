-- `brake::hold_row` meets its contract: by the kind of action.
use mathlib.Core.Path.{sym, ap, ◌∙◌}
use mathlib.Core.Logic.{inl, inr}
use lib.Ieee.{binary64, of_bits}
use Rattle.checked.specs.Of.{row_from}
use Rattle.workspace.specs.Of.{walls_of}
use Rattle.brake.specs.Rule.{hold_row}
use Rattle.brake.proofs.Sending.{position_holds, position_of}
use Rattle.brake.proofs.hold_row.Goals as goal

pub returns-in-JointVelocity : goal.returns-in-JointVelocity
unfolding hold_row of_bits
returns-in-JointVelocity c = elim c.in-JointVelocity.is [ inl e ↦ rw e | inr e ↦ rw e ]

pub returns-in_default : goal.returns-in_default
returns-in_default c = let s = c.args in c.setpoint.ensures ∙ sym (ap row_from (position_holds (walls_of s.w) s.pos.now s.n binary64 s.kind (position_of c.args.kind c.in_default.not-JointVelocity c.in_default.not-EeDelta)))
