-- `workspace::setpoint_masks` meets its contract: eight coordinates, then the walls that move them.
use native.Mathlib.Omega.{arith}
use Rattle.checked.proofs.Copy.{eight_is}
use Rattle.workspace.specs.Rule.{setpoint_masks}
use Rattle.workspace.proofs.setpoint_masks.Goals as goal

pub returns : goal.returns
unfolding setpoint_masks
returns c = rw (c.wall_masks.ensures, eight_is c.args.pos.now 8 (omega arith) c.padded-point.ensures)
