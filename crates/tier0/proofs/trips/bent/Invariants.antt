-- `tier0::trips::bent` meets its contract: one coordinate a turn, with one test of it.
use Prim.Native.Nat.{◌≤◌}
use mathlib.Core.Path.{◌≡◌}
use lib.ListN.{replicate}
use lib.Ieee.{binary64}
use Rattle.checked.specs.Finite.{+0}
use Rattle.checked.specs.Checked.{each}
use Rattle.tier0.specs.Chunk.{bends}
use Rattle.tier0.proofs.trips.bent.Given as goal

abbrev pub invariant-loop-i : goal.invariant-loop-i
invariant-loop-i l = (l.i ≤ l.n) × ((l.r ≡ (each (bends binary64 l.next l.here l.before) (replicate 8 +0) l.i).value) × (l.sound ≡ (each (bends binary64 l.next l.here l.before) (replicate 8 +0) l.i).sound))
