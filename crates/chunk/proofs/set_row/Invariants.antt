-- `chunk::set_row` meets its contract, by its ways out: nothing is written where there is no such row; else the loop has copied the first c numbers.
use Prim.Native.Nat.{◌≤◌}
use mathlib.Core.Path.{◌≡◌}
use lib.ListN.{length}
use lib.Seq.{paste}
use Rattle.chunk.proofs.set_row.Given as goal

abbrev pub invariant-loop-c : goal.invariant-loop-c
invariant-loop-c l = (length l.«data» ≡ length l.initial.«data») × (l.«data» ≡ paste l.initial.«data» l.start l.row l.c)
