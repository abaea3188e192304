-- `tier1::sums::peak` meets its contract: the loop takes one step more a turn.
use native.Mathlib.Omega.{arith}
use lib.Ieee.{binary64, of_bits}
use Rattle.tier1.proofs.Rows.{first_stride, next_stride}
use Rattle.tier1.proofs.sums.peak.Goals as goal

pub loop-i-init : goal.loop-i-init
unfolding of_bits
loop-i-init c = let w = c.requires in (omega arith, λ q e. first_stride binary64 _ q _ e c.max-most.ensures c.finite-sound.ensures)

pub loop-i-preserved : goal.loop-i-preserved
loop-i-preserved c = (omega (arith, c.loop-i-test.true), λ q e. next_stride binary64 _ q _ c.loop-i.i (c.loop-i.invariant.1 q e) (rw (c.row.ensures, c.row-in-loop-i.ensures) at c.distance-x.ensures) c.max-most-in-loop-i.ensures c.finite-sound-in-loop-i.ensures)
