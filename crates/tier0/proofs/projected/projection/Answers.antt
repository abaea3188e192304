-- `tier0::projected::projection` meets its contract under each mode.
use lib.Ieee.{binary64}
use Rattle.tier0.proofs.Steps.{projection_off, projection_on}
use Rattle.tier0.proofs.projected.projection.Goals as goal

pub returns-in-Off : goal.returns-in-Off
returns-in-Off c = projection_off binary64 _ _ _ _ _ _ c.in-Off.is

pub returns-in-Project : goal.returns-in-Project
returns-in-Project c = projection_on binary64 _ _ _ _ _ _ c.in-Project.is c.project.ensures
