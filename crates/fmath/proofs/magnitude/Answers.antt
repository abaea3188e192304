-- `fmath::magnitude` meets its contract: a coordinate that is not there makes a NaN, and the squares that are summed are the rule's.
use mathlib.Core.Path.{sym}
use borrow.Author.Rules.{rules}
use lib.Ieee.{binary64, of_bits, div}
use Rattle.fmath.specs.Norm.{norm, square_at}
use Rattle.fmath.proofs.Lengths.{norm_missing}
use Rattle.fmath.proofs.magnitude.Goals as goal

pub returns-then-v-n : goal.returns-then-v-n
unfolding of_bits div
returns-then-v-n c = let s = c.args in sym (norm_missing binary64 s.v.now s.n c.if-v-n.true)

pub returns : goal.returns
unfolding norm square_at
returns c = let s = c.args in c.root_of_squares.ensures (square_at binary64 s.v.now) (λ j d b k. search rules)
