-- `fmath::all_above_zero` meets its contract: a number that is not there is not above zero, and the loop keeps both answers so far.
use Prim.Native.Nat.{ℕ}
use mathlib.Core.Path.{◌≡◌}
use lib.Ieee.{lt}
use Rattle.checked.specs.Each.{all, at}
use Rattle.checked.specs.Finite.{+0, finite}
use Rattle.fmath.proofs.all_above_zero.Given as goal

abbrev pub invariant-loop-i : goal.invariant-loop-i
invariant-loop-i l = (l.above ≡ all (λ (k : ℕ). lt +0 (at l.v k)) l.i) × (l.real ≡ all (λ (k : ℕ). finite (at l.v k)) l.i)
