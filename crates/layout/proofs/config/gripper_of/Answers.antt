-- `layout::config::gripper_of` meets its contract: by cases on the code.
use mathlib.Core.Path.{◌≡◌, refl}
use native.Mathlib.Omega.{arith}
use Prim.Native.Nat.{ℕ, zero, suc}
use Rattle.envelope.specs.declared.Gripper.TheVariants as G
use Rattle.layout.specs.Config.{gripper_of}
use Rattle.layout.proofs.config.gripper_of.Goals as goal

other : (k : ℕ) → (k ≡ 1 → ⊥) → G.ToZero ≡ gripper_of k
unfolding gripper_of
other zero a = refl
other (suc zero) a = absurd (a refl)
other (suc (suc k)) a = refl

pub returns-in-1 : goal.returns-in-1
unfolding gripper_of
returns-in-1 c = rw c.in-1.is

pub returns-in_default : goal.returns-in_default
returns-in_default c = other c.args.k (λ e. omega arith)
