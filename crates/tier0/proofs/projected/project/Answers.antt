-- `tier0::projected::project` meets its contract.
use lib.Ieee.{binary64}
use Rattle.tier0.proofs.Steps.{project_is}
use Rattle.tier0.proofs.projected.project.Goals as goal

pub returns : goal.returns
returns c = project_is binary64 _ _ _ _ _ c.moved_inside-b.ensures c.pulls-r.ensures c.moved_dims-mask.ensures
