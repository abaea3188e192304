-- `workspace::wall_masks` meets its contract: from the eighth axis and the last coordinate on no wall moves anything, and the loop keeps both masks so far.
use Prim.Native.Nat.{ℕ, ◌^◌, ◌≤◌}
use mathlib.Core.Path.{◌≡◌}
use mathlib.Core.List.{List}
use lib.ListN.{length}
use lib.Ieee.{Float}
use Rattle.bits.specs.Bits.{bits_where}
use Rattle.workspace.specs.declared.Bounds.{Bounds}
use Rattle.workspace.specs.declared.Shape.{Shape}
use Rattle.workspace.specs.Shape.{first_boxed}
use Rattle.workspace.specs.Rule.{raised_at, lowered_at}
use Rattle.workspace.specs.Of.{walls_in}
use Rattle.workspace.proofs.wall_masks.Given as goal

-- the first j of m axes are looked at
pub record Looking (a : List Float) (b : Bounds) (first m low high power j : ℕ) : Type 0 where
  pub there : m ≤ length a
  pub narrow : m ≤ 8
  pub next : power ≡ 2 ^ j
  pub low_so_far : (s : Shape) → first ≡ first_boxed s → low ≡ bits_where (raised_at (walls_in s b) a) j
  pub high_so_far : (s : Shape) → first ≡ first_boxed s → high ≡ bits_where (lowered_at (walls_in s b) a) j

abbrev pub invariant-loop-j : goal.invariant-loop-j
invariant-loop-j l = Looking l.a l.b l.first l.m l.low l.high l.power l.j
