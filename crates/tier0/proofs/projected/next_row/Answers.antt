-- `tier0::projected::next_row` meets its contract: the first move, and then the pulls.
use lib.Ieee.{binary64}
use Rattle.tier0.proofs.Steps.{moved_row}
use Rattle.tier0.proofs.projected.next_row.Goals as goal

pub returns : goal.returns
returns c = moved_row binary64 _ _ _ _ _ _ c.moved_inside-b.ensures c.pulls-r.ensures
