-- `tier0::trips::jolted` meets its contract: one coordinate a turn, with one test of it.
use Prim.Native.Nat.{◌≤◌}
use mathlib.Core.Path.{◌≡◌}
use lib.ListN.{replicate}
use lib.Ieee.{binary64}
use Rattle.checked.specs.Finite.{+0}
use Rattle.checked.specs.Checked.{each}
use Rattle.tier0.specs.Chunk.{jolts}
use Rattle.tier0.proofs.trips.jolted.Given as goal

abbrev pub invariant-loop-i : goal.invariant-loop-i
invariant-loop-i l = (l.i ≤ l.n) × ((l.r ≡ (each (jolts binary64 l.second l.next l.here l.before) (replicate 8 +0) l.i).value) × (l.sound ≡ (each (jolts binary64 l.second l.next l.here l.before) (replicate 8 +0) l.i).sound))
