-- `fmath::put` meets its contract: the loop puts one number a turn and keeps the length.
use Prim.Native.Nat.{ℕ, ◌≤◌}
use mathlib.Core.List.{List}
use mathlib.Core.Path.{◌≡◌}
use lib.Ieee.{Float}
use lib.ListN.{length}
use Rattle.checked.specs.Each.{at, over}
use Rattle.fmath.proofs.put.Given as goal

-- the first i of count numbers are put
pub record Putting (from : List Float) (out₀ : List Float) (count : ℕ) (out : List Float) (i : ℕ) : Type 0 where
  pub enough : count ≤ length from
  pub room : count ≤ length out₀
  pub same : length out ≡ length out₀
  pub so_far : out ≡ over (at from) out₀ i

abbrev pub invariant-loop-i : goal.invariant-loop-i
invariant-loop-i l = Putting l.from l.initial.out l.count l.out l.i
