-- `tier0::trips::bent_at` meets its contract: three rows, their difference, and one test of its scaled length.
use lib.Ieee.{binary64}
use Rattle.tier0.proofs.Rows.{bent_at_is}
use Rattle.tier0.proofs.trips.bent_at.Goals as goal

pub returns : goal.returns
returns c = bent_at_is binary64 _ _ _ _ c.row_before-before.ensures c.raw_row-here.ensures c.raw_row-next.ensures c.magnitude-v.ensures c.bent-d.ensures c.finite-fine.ensures
