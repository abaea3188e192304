-- `fmath::clamp` meets its contract, by the tests that led to each answer.
use lib.Ieee.{lt}
use Rattle.fmath.specs.Clamp.{clamped, side}
use Rattle.fmath.proofs.Clamping.{raised_is, lowered_is, untouched_is}
use Rattle.fmath.proofs.clamp.Goals as goal

pub returns-then-x-lo : goal.returns-then-x-lo
unfolding clamped side
returns-then-x-lo c = let s = c.args in raised_is (lt s.x s.lo) (lt s.hi s.x) s.x s.lo s.hi c.if-x-lo.true

pub returns-then-x-hi : goal.returns-then-x-hi
unfolding clamped side
returns-then-x-hi c = let s = c.args in lowered_is (lt s.x s.lo) (lt s.hi s.x) s.x s.lo s.hi c.if-x-lo.false c.if-x-hi.true

pub returns-else-x-hi : goal.returns-else-x-hi
unfolding clamped side
returns-else-x-hi c = let s = c.args in untouched_is (lt s.x s.lo) (lt s.hi s.x) s.x s.lo s.hi c.if-x-lo.false c.if-x-hi.false
