-- `workspace::gap` meets its contract: its two tests tell of each number on the way.
use lib.Ieee.{binary64}
use Rattle.workspace.specs.Rule.{between}
use Rattle.workspace.proofs.Gaps.{between_tells}
use Rattle.workspace.proofs.gap.Goals as goal

pub returns : goal.returns
unfolding between
returns c = let s = c.args in rw (c.nearer.ensures, between_tells binary64 s.lo s.hi s.p)
