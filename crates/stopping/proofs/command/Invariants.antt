-- `stopping::command` meets its contract, axis by axis.
use Prim.Native.Nat.{ℕ, ◌≤◌}
use mathlib.Core.Path.{◌≡◌}
use lib.Ieee.{binary64}
use Rattle.checked.specs.Each.{at}
use Rattle.checked.specs.Checked.{each}
use Rattle.stopping.specs.Rule.{commanded}
use Rattle.stopping.proofs.command.Given as goal

abbrev pub invariant-loop-j : goal.invariant-loop-j
invariant-loop-j l = (l.j ≤ l.n) × (l.r ≡ (each (λ (i : ℕ). commanded binary64 l.arm.kind l.arm.dt l.g (at l.a i) (at l.p i)) l.initial.r l.j).value) × (l.kind ≡ l.arm.kind)
