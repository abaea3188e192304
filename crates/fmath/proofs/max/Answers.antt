-- `fmath::max` meets its contract, by the test that led to each answer.
use lib.Ieee.{lt}
use Rattle.checked.specs.Least.{greater}
use Rattle.checked.proofs.Chosen.{first, second}
use Rattle.fmath.proofs.max.Goals as goal

pub returns-then-a-b : goal.returns-then-a-b
unfolding greater
returns-then-a-b c = let s = c.args in first (lt s.b s.a) s.a s.b c.if-a-b.true

pub returns-else-a-b : goal.returns-else-a-b
unfolding greater
returns-else-a-b c = let s = c.args in second (lt s.b s.a) s.a s.b c.if-a-b.false
