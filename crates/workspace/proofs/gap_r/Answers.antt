-- `workspace::gap_r` meets its contract: its two tests tell of each number on the way.
use lib.Ieee.{binary64}
use Rattle.workspace.specs.Rule.{between_r}
use Rattle.workspace.proofs.Gaps.{within_tells}
use Rattle.workspace.proofs.gap_r.Goals as goal

pub returns : goal.returns
unfolding between_r
returns c = let s = c.args in rw (c.nearer.ensures, within_tells binary64 s.r s.lo s.hi s.p)
