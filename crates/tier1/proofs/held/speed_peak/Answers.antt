-- `tier1::held::speed_peak` meets its contract: the greatest step, and one test of the quotient.
use lib.Ieee.{binary64}
use Rattle.tier1.proofs.Found.{speed_is}
use Rattle.tier1.proofs.held.speed_peak.Goals as goal

pub returns : goal.returns
returns c = let g = c.args in speed_is binary64 g.m g.pos.now g.b.now g.h c.start_row-q.ensures c.peak-p.ensures c.finite-fine.ensures
