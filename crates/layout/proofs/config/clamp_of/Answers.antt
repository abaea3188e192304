-- `layout::config::clamp_of` meets its contract: by cases on the code.
use mathlib.Core.Path.{◌≡◌, refl}
use native.Mathlib.Omega.{arith}
use Prim.Native.Nat.{ℕ, zero, suc}
use Rattle.envelope.specs.declared.ClampMode.TheVariants as M
use Rattle.layout.specs.Config.{clamp_of}
use Rattle.layout.proofs.config.clamp_of.Goals as goal

other : (k : ℕ) → (k ≡ 0 → ⊥) → M.Project ≡ clamp_of k
unfolding clamp_of
other zero a = absurd (a refl)
other (suc k) a = refl

pub returns-in-0 : goal.returns-in-0
unfolding clamp_of
returns-in-0 c = rw c.in-0.is

pub returns-in_default : goal.returns-in_default
returns-in_default c = other c.args.k (λ e. omega arith)
