-- `rollout::substep` meets its contract: the loop takes one axis a turn.
use Prim.Native.Nat.{ℕ, ◌≤◌}
use mathlib.Core.List.{List}
use mathlib.Core.Path.{◌≡◌}
use lib.ListN.{length}
use lib.Ieee.{Float, binary64}
use Rattle.course.specs.declared.Plant.{Plant}
use Rattle.rollout.specs.declared.Law.{Law}
use Rattle.rollout.specs.Plant.{substep}
use Rattle.rollout.specs.Of.{gains_of}
use Rattle.course.specs.Of.{state_of}
use Rattle.rollout.proofs.substep.Given as goal

-- the first j axes have moved
pub record Stepping (g : Law) (a : List Float) (n : ℕ) (r₀ r : Plant) (j : ℕ) : Type 0 where
  pub along : j ≤ n
  pub places : length r.p ≡ 8
  pub rates : length r.v ≡ 8
  pub so_far : state_of r ≡ (substep binary64 (gains_of g) a j (state_of r₀)).value

abbrev pub invariant-loop-j : goal.invariant-loop-j
invariant-loop-j l = Stepping l.g l.a l.n l.initial.r l.r l.j
