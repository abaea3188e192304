-- `tier0::trips::large_rows` meets its contract: the loop keeps the answer so far.
use Prim.Native.Nat.{◌≤◌}
use mathlib.Core.Path.{◌≡◌}
use lib.Ieee.{binary64}
use Rattle.tier0.specs.Chunk.{some_of, large_at}
use Rattle.tier0.proofs.trips.large_rows.Given as goal

abbrev pub invariant-loop-i : goal.invariant-loop-i
invariant-loop-i l = (l.i ≤ l.h) × ((l.holds ≡ (some_of (large_at binary64 l.s l.d l.q l.rows) l.i).value) × (l.sound ≡ (some_of (large_at binary64 l.s l.d l.q l.rows) l.i).sound))
