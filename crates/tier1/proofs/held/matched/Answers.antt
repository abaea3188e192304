-- `tier1::held::matched` meets its contract: two sums, a quotient and a root of each, and one test more, of the divisor.
use lib.Ieee.{binary64, of_bits}
use Rattle.tier1.proofs.Found.{matched_is}
use Rattle.tier1.proofs.held.matched.Goals as goal

pub returns : goal.returns
unfolding of_bits
returns c =
    let g = c.args in
    matched_is binary64 g.m g.a.now g.k g.b.now g.l c.squared_gaps-num.ensures c.squared_gaps-den.ensures c.count-n.ensures c.sqrt-first.ensures c.sqrt-second.ensures c.finite-p.ensures c.finite-q.ensures c.finite-r.ensures
