-- What an entry that takes a trail answers after each of its tests: 1 first, then 12, then what it computes itself.
use Prim.Native.Nat.{ℕ}
use mathlib.Core.Path.{◌≡◌, refl}
use mathlib.Core.Bool.{Bool, true, false, not, ◌||◌}
use mathlib.Core.List.{[], ◌∷◌}
use native.Mathlib.Omega.{arith}
use lib.Ieee.{Float}
use Rattle.refusal.specs.Order.{◌when◌, size, not_finite, computed, refusal}
use Rattle.std.specs.Prelude.{if◌then◌else◌}
use Rattle.fmath.specs.Answer.{number_or}
use Rattle.checked.specs.Checked.{Checked}
use Rattle.checked.specs.Finite.{finite}
use Rattle.checked.proofs.Told.{Tells}
use Rattle.window.specs.Answer.{number_after}

-- the number of a trail alone: a where it is out of size, b where its numbers are not fit
abbrev pub alone : Bool → Bool → ℕ
alone a b = refusal (size when a ∷ not_finite when b ∷ [])

pub size_refused : (a b : Bool) → a ≡ true → 1 ≡ alone a b
size_refused a b e = rw e

pub numbers_refused : (a b : Bool) → a ≡ false → b ≡ true → 12 ≡ alone a b
numbers_refused a b e h = rw (e, h)

pub trail_accepted : (a b : Bool) → a ≡ false → b ≡ false → 0 ≡ alone a b
trail_accepted a b e h = rw (e, h)

-- what is judged of a trail with a lent position, whose numbers are all finite where ok
abbrev pub with_position : Bool → Bool → Bool → ℕ
with_position a b ok = refusal (size when a ∷ not_finite when (b || not ok) ∷ [])

pub trail_refused : (a b ok : Bool) (n : ℕ) → n ≡ alone a b → (n ≡ 0 → ⊥) → n ≡ with_position a b ok
trail_refused true b ok n e f = e
trail_refused false true ok n e f = e
trail_refused false false ok n e f = absurd (f e)

pub position_refused : (a b ok : Bool) (n : ℕ) → n ≡ alone a b → n ≡ 0 → ok ≡ false → 12 ≡ with_position a b ok
position_refused true b ok n e z k = absurd (omega arith)
position_refused false true ok n e z k = absurd (omega arith)
position_refused false false ok n e z k = rw k

pub both_accepted : (a b ok : Bool) (n : ℕ) → n ≡ alone a b → n ≡ 0 → ok ≡ true → 0 ≡ with_position a b ok
both_accepted true b ok n e z k = absurd (omega arith)
both_accepted false true ok n e z k = absurd (omega arith)
both_accepted false false ok n e z k = rw k

last_test : (t : Bool) (x : Float) → number_or (if t then 0 else 13) x ≡ number_or (if not t then 13 else 0) x
last_test true x = refl
last_test false x = refl

-- the test of the last number is a test of all
pub computed_last : (a b : Bool) (x : Checked Float) (n : ℕ) → n ≡ alone a b → Tells x → number_after n x.value ≡ number_or (refusal (size when a ∷ not_finite when b ∷ computed when not x.sound ∷ [])) x.value
computed_last true b x n e t = rw e
computed_last false true x n e t = rw e
computed_last false false x n e t = rw (e, t) (last_test (finite x.value) x.value)

not_out : (a b : Bool) → alone a b ≡ 0 → a ≡ false
not_out true b z = absurd (omega arith)
not_out false b z = refl

-- an accepted push is of a trail in size
pub accepted_in_size : (a b ok : Bool) → with_position a b ok ≡ 0 → a ≡ false
accepted_in_size a b ok z = not_out a (b || not ok) z
