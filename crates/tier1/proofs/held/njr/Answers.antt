-- `tier1::held::njr` meets its contract: two sums, and one test of the divisor beside that of the quotient.
use borrow.Author.Tests.{le-leb}
use lib.Ieee.{binary64, of_bits}
use Rattle.tier1.proofs.Found.{is_there, njr_is}
use Rattle.tier1.proofs.held.njr.Goals as goal

pub returns : goal.returns
unfolding of_bits
returns c =
    let g = c.args in
    is_there _ (le-leb 4 g.h c.if-h-lt4.false)
    (njr_is binary64 g.m g.b.now g.h c.squared_jolts-num.ensures c.squared_gaps-den.ensures c.count.ensures c.count-2.ensures c.finite-p.ensures c.finite-q.ensures)
