-- `tier0::trips::step_rows` meets its contract: each turn adds one step to what is kept of all.
use Prim.Native.Nat.{◌≤◌}
use lib.Ieee.{binary64}
use Rattle.tier0.proofs.Rows.{Strode}
use Rattle.tier0.proofs.trips.step_rows.Given as goal

abbrev pub invariant-loop-i : goal.invariant-loop-i
invariant-loop-i l = (l.i ≤ l.h) × ((l.h ≤ 64) × Strode binary64 l.s l.slow l.q l.rows l.i l.peak l.fast l.close l.out l.told l.sound)
