-- `brake::brake_row` meets its contract: by the kind of action.
use mathlib.Core.Path.{sym, ap, ◌∙◌}
use lib.Ieee.{binary64}
use Rattle.workspace.specs.Of.{walls_of}
use Rattle.brake.specs.Rule.{brake_row}
use Rattle.checked.specs.Of.{row_from}
use Rattle.brake.proofs.Sending.{position_brakes, position_of}
use Rattle.brake.proofs.brake_row.Goals as goal

pub returns-in-JointVelocity : goal.returns-in-JointVelocity
unfolding brake_row
returns-in-JointVelocity c = rw (c.in-JointVelocity.is, c.slower.ensures)

pub returns-in-EeDelta : goal.returns-in-EeDelta
unfolding brake_row
returns-in-EeDelta c = rw (c.in-EeDelta.is, c.shorter.ensures)

pub returns-in_default : goal.returns-in_default
returns-in_default c =
    let s = c.args in
    c.setpoint.ensures
    ∙ sym (ap row_from (position_brakes (walls_of s.w) s.pos.now s.n binary64 s.a_max s.dt s.vel.now s.kind (position_of c.args.kind c.in_default.not-JointVelocity c.in_default.not-EeDelta)))
