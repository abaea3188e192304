-- `conformal::standards` meets its contract: the loop keeps the table and the soundness of the features passed.
use Prim.Native.Nat.{ℕ}
use mathlib.Core.Bool.{Bool}
use mathlib.Core.List.{List}
use mathlib.Core.Path.{◌≡◌}
use lib.Ieee.{Float}
use lib.ListN.{length, take}
use lib.Ieee.{binary64}
use Rattle.checked.specs.Each.{all, table}
use Rattle.conformal.specs.Of.{tables}
use Rattle.conformal.specs.Rule.{live, standard_at}
use Rattle.conformal.proofs.standards.Given as goal

-- the first j features are standardised
pub record Scored (center scale : List Float) (bin mask valid : ℕ) (x : List Float) (z : List Float) (sound : Bool) (j : ℕ) : Type 0 where
  pub wide : length z ≡ 12
  pub so_far : take j z ≡ table (λ (k : ℕ). (standard_at binary64 (tables center scale) bin (live mask valid) x k).value) j
  pub told : sound ≡ all (λ (k : ℕ). (standard_at binary64 (tables center scale) bin (live mask valid) x k).sound) j

abbrev pub invariant-loop-j : goal.invariant-loop-j
invariant-loop-j l = Scored l.center l.scale l.bin l.mask l.valid l.x l.z l.sound l.j
