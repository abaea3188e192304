-- `tier0::trips::step_rows` meets its contract: each turn adds one step to what is kept of all.
use native.Mathlib.Nat.{le_antisymm}
use native.Mathlib.Omega.{arith}
use lib.Ieee.{binary64, of_bits}
use Rattle.tier0.proofs.Rows.{set_out, stride, strides_are}
use Rattle.tier0.proofs.trips.step_rows.Goals as goal

pub loop-i-init : goal.loop-i-init
unfolding of_bits
loop-i-init c = let w = c.requires in (omega arith, (w.1, set_out binary64 _ _ _ _))

pub loop-i-preserved : goal.loop-i-preserved
loop-i-preserved c = let l = c.loop-i in (omega (arith, c.loop-i-test.true), (l.invariant.1.0, stride binary64 _ _ _ _ _ _ _ _ _ _ _ l.invariant.1.1 c.raw_row-a.ensures c.row_before-b.ensures c.distance-n.ensures c.max-peak.ensures c.out_of_workspace-beyond.ensures c.finite-sound.ensures))

pub returns : goal.returns
returns c = let l = c.loop-i in let g = c.args in strides_are binary64 g.s g.slow _ _ (le_antisymm l.invariant.0 c.loop-i-test.false) l.invariant.1.1
