-- `workspace::some_beyond` meets its contract: from the eighth axis and the last coordinate on none lies beyond, nor one without a box, and the loop keeps the answer so far.
use Prim.Native.Nat.{ℕ, ◌≤◌}
use mathlib.Core.Path.{◌≡◌}
use mathlib.Core.Bool.{Bool}
use mathlib.Core.List.{List}
use lib.ListN.{length}
use lib.Ieee.{Float}
use Rattle.checked.specs.Each.{some}
use Rattle.workspace.specs.declared.Bounds.{Bounds}
use Rattle.workspace.specs.declared.Shape.{Shape}
use Rattle.workspace.specs.Shape.{first_boxed}
use Rattle.workspace.specs.Rule.{beyond}
use Rattle.workspace.specs.Of.{walls_in}
use Rattle.workspace.proofs.some_beyond.Given as goal

-- the first j of m coordinates are looked at, those before `first` at once
pub record Looking (first : ℕ) (a : List Float) (b : Bounds) (m : ℕ) (out : Bool) (j : ℕ) : Type 0 where
  pub there : m ≤ length a
  pub narrow : m ≤ 8
  pub so_far : (s : Shape) → first ≡ first_boxed s → out ≡ some (beyond (walls_in s b) a) j

abbrev pub invariant-loop-j : goal.invariant-loop-j
invariant-loop-j l = Looking l.first l.a l.b l.m l.out l.j
