-- `tier1::sums::row_gaps` meets its contract: on each coordinate the difference of both rows is squared.
use borrow.Author.Rules.{rules}
use lib.Ieee.{binary64}
use Rattle.tier1.specs.Rule.{normal, gap}
use Rattle.tier1.proofs.sums.row_gaps.Goals as goal

pub returns : goal.returns
unfolding gap normal
returns c = let g = c.args in c.add_squares.ensures (gap binary64 g.m g.a.now g.b.now) (λ i x l p. search rules)
