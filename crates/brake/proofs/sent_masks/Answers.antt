-- `brake::sent_masks` meets its contract: by the kind of action.
use mathlib.Core.Path.{ap, ◌∙◌}
use Rattle.workspace.specs.Of.{walls_of}
use Rattle.workspace.specs.Rule.{setpoint_masks}
use Rattle.brake.specs.Rule.{live}
use Rattle.brake.proofs.Sending.{velocity_unmoved, position_masks, position_of}
use Rattle.brake.proofs.sent_masks.Goals as goal

pub returns-in-JointVelocity : goal.returns-in-JointVelocity
returns-in-JointVelocity c = let s = c.args in velocity_unmoved (walls_of s.w) s.pos.now (live s.c) s.c.kind c.in-JointVelocity.is c.unmoved.ensures

pub returns-in_default : goal.returns-in_default
returns-in_default c =
    let s = c.args in
    position_masks (walls_of s.w) s.pos.now (live s.c) s.c.kind (position_of s.c.kind c.in_default.not-JointVelocity c.in_default.not-EeDelta) (c.setpoint_masks.ensures ∙ ap (setpoint_masks (walls_of s.w) s.pos.now) c.fewer-axes.ensures)
