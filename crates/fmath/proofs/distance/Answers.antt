-- `fmath::distance` meets its contract: a coordinate that is not there makes a NaN, and the squares that are summed are the rule's.
use mathlib.Core.Path.{sym}
use borrow.Author.Rules.{rules}
use lib.Ieee.{binary64, of_bits, div}
use Rattle.fmath.specs.Norm.{dist, squared_gap}
use Rattle.fmath.proofs.Lengths.{dist_missing_left, dist_missing_right}
use Rattle.fmath.proofs.distance.Goals as goal

pub returns-then-a-n : goal.returns-then-a-n
unfolding of_bits div
returns-then-a-n c = let s = c.args in sym (dist_missing_left binary64 s.a.now s.b.now s.n c.if-a-n.true)

pub returns-then-b-n : goal.returns-then-b-n
unfolding of_bits div
returns-then-b-n c = let s = c.args in sym (dist_missing_right binary64 s.a.now s.b.now s.n c.if-b-n.true)

pub returns : goal.returns
unfolding dist squared_gap
returns c = let s = c.args in c.root_of_squares.ensures (squared_gap binary64 s.a.now s.b.now) (λ j d b k. search rules)
