-- `stopping::step` meets its contract, axis by axis.
use Prim.Native.Nat.{ℕ, ◌≤◌}
use mathlib.Core.Path.{◌≡◌}
use lib.Ieee.{binary64}
use Rattle.checked.specs.Each.{at}
use Rattle.checked.specs.Checked.{each}
use Rattle.stopping.specs.Rule.{moved}
use Rattle.stopping.proofs.step.Given as goal

abbrev pub invariant-loop-j : goal.invariant-loop-j
invariant-loop-j l = (l.j ≤ l.n) × (l.r ≡ (each (λ (i : ℕ). moved binary64 l.dt (at l.v i) (at l.p i)) l.p l.j).value) × (l.sound ≡ (each (λ (i : ℕ). moved binary64 l.dt (at l.v i) (at l.p i)) l.p l.j).sound)
