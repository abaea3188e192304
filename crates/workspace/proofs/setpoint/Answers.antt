-- `workspace::setpoint` meets its contract: eight coordinates, then inside the walls.
use native.Mathlib.Omega.{arith}
use Rattle.checked.proofs.Copy.{eight_is}
use Rattle.workspace.specs.Rule.{setpoint}
use Rattle.workspace.proofs.setpoint.Goals as goal

pub returns : goal.returns
unfolding setpoint
returns c = rw (c.inward.ensures, eight_is c.args.pos.now 8 (omega arith) c.padded-p.ensures)
