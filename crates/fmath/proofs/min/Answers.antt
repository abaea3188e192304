-- `fmath::min` meets its contract, by the test that led to each answer.
use lib.Ieee.{lt}
use Rattle.checked.specs.Least.{lesser}
use Rattle.checked.proofs.Chosen.{first, second}
use Rattle.fmath.proofs.min.Goals as goal

pub returns-then-a-b : goal.returns-then-a-b
unfolding lesser
returns-then-a-b c = let s = c.args in first (lt s.a s.b) s.a s.b c.if-a-b.true

pub returns-else-a-b : goal.returns-else-a-b
unfolding lesser
returns-else-a-b c = let s = c.args in second (lt s.a s.b) s.a s.b c.if-a-b.false
