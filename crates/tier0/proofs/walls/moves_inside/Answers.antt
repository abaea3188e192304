-- `tier0::walls::moves_inside` meets its contract under each mode.
use Rattle.tier0.proofs.Masks.{moves_inside_off, moves_inside_on}
use Rattle.tier0.proofs.walls.moves_inside.Goals as goal

pub returns-in-Off : goal.returns-in-Off
returns-in-Off c = moves_inside_off _ _ c.in-Off.is

pub returns-in-Project : goal.returns-in-Project
returns-in-Project c = moves_inside_on _ _ c.in-Project.is c.armed.ensures
