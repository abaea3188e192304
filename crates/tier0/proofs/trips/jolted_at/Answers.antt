-- `tier0::trips::jolted_at` meets its contract: four rows, their difference, and one test of its scaled length.
use lib.Ieee.{binary64}
use Rattle.tier0.proofs.Rows.{jolted_at_is}
use Rattle.tier0.proofs.trips.jolted_at.Goals as goal

pub returns : goal.returns
returns c = jolted_at_is binary64 _ _ _ _ c.row_before-before.ensures c.raw_row-here.ensures c.raw_row-next.ensures c.magnitude-v.ensures c.raw_row-second.ensures c.jolted-d.ensures c.finite-fine.ensures
