-- `layout::config::brake_kind_of` meets its contract: by cases on the code.
use mathlib.Core.Path.{◌≡◌, refl}
use native.Mathlib.Omega.{arith}
use Prim.Native.Nat.{ℕ, zero, suc}
use lib.Ieee.{Float}
use Rattle.envelope.specs.declared.BrakeKind.TheVariants as B
use Rattle.layout.specs.Config.{brake_kind_of}
use Rattle.layout.proofs.config.brake_kind_of.Goals as goal

other : (k : ℕ) (x y z : Float) → (k ≡ 0 → ⊥) → (k ≡ 1 → ⊥) → (k ≡ 2 → ⊥) → (k ≡ 3 → ⊥) → B.ZeroVelocityHold x y z ≡ brake_kind_of k x y z
unfolding brake_kind_of
other zero x y z a b c d = absurd (a refl)
other (suc zero) x y z a b c d = absurd (b refl)
other (suc (suc zero)) x y z a b c d = absurd (c refl)
other (suc (suc (suc zero))) x y z a b c d = absurd (d refl)
other (suc (suc (suc (suc k)))) x y z a b c d = refl

pub returns-in-0 : goal.returns-in-0
unfolding brake_kind_of
returns-in-0 c = rw c.in-0.is

pub returns-in-1 : goal.returns-in-1
unfolding brake_kind_of
returns-in-1 c = rw c.in-1.is

pub returns-in-2 : goal.returns-in-2
unfolding brake_kind_of
returns-in-2 c = rw c.in-2.is

pub returns-in-3 : goal.returns-in-3
unfolding brake_kind_of
returns-in-3 c = rw c.in-3.is

pub returns-in_default : goal.returns-in_default
returns-in_default c = let s = c.args in other s.k s.k_p s.k_v s.dt (λ e. omega arith) (λ e. omega arith) (λ e. omega arith) (λ e. omega arith)
