-- `layout::config::kind_of` meets its contract: by cases on the code.
use mathlib.Core.Path.{◌≡◌, refl}
use native.Mathlib.Omega.{arith}
use Prim.Native.Nat.{ℕ, zero, suc}
use Rattle.envelope.specs.declared.ActionKind.TheVariants as K
use Rattle.layout.specs.Config.{kind_of}
use Rattle.layout.proofs.config.kind_of.Goals as goal

other : (k : ℕ) → (k ≡ 0 → ⊥) → (k ≡ 1 → ⊥) → (k ≡ 2 → ⊥) → (k ≡ 3 → ⊥) → K.Other ≡ kind_of k
unfolding kind_of
other zero a b c d = absurd (a refl)
other (suc zero) a b c d = absurd (b refl)
other (suc (suc zero)) a b c d = absurd (c refl)
other (suc (suc (suc zero))) a b c d = absurd (d refl)
other (suc (suc (suc (suc k)))) a b c d = refl

pub returns-in-0 : goal.returns-in-0
unfolding kind_of
returns-in-0 c = rw c.in-0.is

pub returns-in-1 : goal.returns-in-1
unfolding kind_of
returns-in-1 c = rw c.in-1.is

pub returns-in-2 : goal.returns-in-2
unfolding kind_of
returns-in-2 c = rw c.in-2.is

pub returns-in-3 : goal.returns-in-3
unfolding kind_of
returns-in-3 c = rw c.in-3.is

pub returns-in_default : goal.returns-in_default
returns-in_default c = other c.args.k (λ e. omega arith) (λ e. omega arith) (λ e. omega arith) (λ e. omega arith)
