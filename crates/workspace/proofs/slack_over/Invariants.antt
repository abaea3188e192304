-- `workspace::slack_over` meets its contract: the loop keeps the least so far, the edge's first.
use Prim.Native.Nat.{ℕ, ◌≤◌}
use mathlib.Core.Path.{◌≡◌}
use mathlib.Core.Bool.{Bool}
use mathlib.Core.Logic.{◌⊎◌}
use lib.Ieee.{Float}
use Rattle.checked.specs.declared.Reckoned.{Reckoned}
use Rattle.workspace.specs.declared.Shape.{Shape}
use Rattle.workspace.specs.Shape.{first_boxed}
use Rattle.workspace.proofs.Over.{Least}
use Rattle.workspace.proofs.slack_over.Given as goal

-- the least over the first j of n axes, from the first that has a box on
pub record Measuring (shape : Shape) (at_edge : Reckoned) (given : ℕ → Reckoned → Type 0) (n : ℕ) (least : Float) (sound : Bool) (j : ℕ) : Type 0 where
  pub along : (j ≤ n) ⊎ (j ≡ first_boxed shape)
  pub so_far : Least shape at_edge given n least sound j

abbrev pub invariant-loop-j : goal.invariant-loop-j
invariant-loop-j g l = Measuring l.fn.shape l.fn.edge (goal.F-post g l.gap) l.n l.least l.sound l.j
