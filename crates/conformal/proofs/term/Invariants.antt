-- `conformal::term` meets its contract: the loop keeps the three folds of the features passed.
use Prim.Native.Nat.{ℕ}
use mathlib.Core.Path.{◌≡◌}
use mathlib.Core.Bool.{Bool, not, ◌||◌}
use mathlib.Core.List.{List}
use lib.Ieee.{Float}
use Rattle.checked.specs.Each.{all, some, at}
use Rattle.bits.specs.Bits.{bit}
use Rattle.conformal.specs.Rule.{live, least_where}
use Rattle.conformal.proofs.term.Given as goal

-- the first j features of a term are looked at
pub record Looking (bits mask valid : ℕ) (z : List Float) (named every : Bool) (least : Float) (j : ℕ) : Type 0 where
  pub some-so-far : named ≡ some (bit bits) j
  pub every-so-far : every ≡ all (λ (k : ℕ). not (bit bits k) || live mask valid k) j
  pub least-so-far : least ≡ least_where (bit bits) (at z) j

abbrev pub invariant-loop-j : goal.invariant-loop-j
invariant-loop-j l = Looking l.bits l.mask l.valid l.z l.some l.every l.least l.j
