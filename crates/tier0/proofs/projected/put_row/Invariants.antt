-- `tier0::projected::put_row` meets its contract: the loop puts one number a turn and keeps the length.
use Prim.Native.Nat.{◌≤◌}
use mathlib.Core.Path.{◌≡◌}
use Rattle.tier0.specs.Chunk.{put_row}
use Rattle.tier0.proofs.projected.put_row.Given as goal

abbrev pub invariant-loop-i : goal.invariant-loop-i
invariant-loop-i l = (l.i ≤ l.n) × (l.out ≡ put_row l.r l.initial.out l.k l.i)
