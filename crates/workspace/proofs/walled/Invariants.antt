-- `workspace::walled` meets its contract: nothing is put past the eighth axis, and from the first axis that has a box on the loop puts one coordinate a turn.
use Prim.Native.Nat.{ℕ, ◌≤◌}
use mathlib.Core.Path.{◌≡◌}
use mathlib.Core.List.{List}
use lib.Ieee.{Float}
use Rattle.checked.specs.Each.{over}
use Rattle.workspace.specs.declared.Bounds.{Bounds}
use Rattle.workspace.specs.declared.Shape.{Shape}
use Rattle.workspace.specs.Shape.{first_boxed}
use Rattle.workspace.specs.Rule.{inside_at}
use Rattle.workspace.specs.Of.{walls_in}
use Rattle.workspace.proofs.walled.Given as goal

-- the first j of m coordinates are put, those before `first` as they are
pub record Putting (first : ℕ) (b : Bounds) (a : List Float) (m : ℕ) (r : List Float) (j : ℕ) : Type 0 where
  pub narrow : m ≤ 8
  pub so_far : (s : Shape) → first ≡ first_boxed s → r ≡ over (inside_at (walls_in s b) a) a j

abbrev pub invariant-loop-j : goal.invariant-loop-j
invariant-loop-j l = Putting l.first l.b l.initial.r l.m l.r l.j
