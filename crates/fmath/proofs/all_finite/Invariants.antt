-- `fmath::all_finite` meets its contract: a number that is not there is not finite, and the loop keeps the answer so far.
use Prim.Native.Nat.{ℕ}
use mathlib.Core.Path.{◌≡◌}
use Rattle.checked.specs.Each.{all, at}
use Rattle.checked.specs.Finite.{finite}
use Rattle.fmath.proofs.all_finite.Given as goal

abbrev pub invariant-loop-i : goal.invariant-loop-i
invariant-loop-i l = l.ok ≡ all (λ (k : ℕ). finite (at l.v k)) l.i
