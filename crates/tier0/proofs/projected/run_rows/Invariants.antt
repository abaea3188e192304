-- `tier0::projected::run_rows` meets its contract: each turn projects one row from the projected one before it.
use Prim.Native.Nat.{◌≤◌}
use mathlib.Core.Path.{◌≡◌}
use lib.ListN.{length}
use lib.Ieee.{binary64}
use Rattle.tier0.specs.Chunk.{run_rows}
use Rattle.tier0.specs.Of.{slow_of}
use Rattle.tier0.proofs.Rows.{Kept}
use Rattle.tier0.proofs.projected.run_rows.Given as goal

abbrev pub invariant-loop-i : goal.invariant-loop-i
invariant-loop-i l = (l.i ≤ l.h) × ((length l.out ≡ length l.initial.out) × Kept (run_rows binary64 l.s (slow_of l.z) l.pos l.rows l.initial.q l.initial.out l.i) l.q l.out l.mask l.sound)
