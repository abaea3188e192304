-- `tier1::sums::row_jolts` meets its contract: on each coordinate the third difference of the rows is squared.
use borrow.Author.Rules.{rules}
use lib.Ieee.{binary64, of_bits}
use Rattle.tier1.specs.Rule.{normal, jolt}
use Rattle.tier1.proofs.sums.row_jolts.Goals as goal

pub returns : goal.returns
unfolding jolt normal of_bits
returns c = let g = c.args in c.add_squares.ensures (jolt binary64 g.m g.third.now g.second.now g.next.now g.here.now) (λ i x l p. search rules)
