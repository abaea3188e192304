-- What is known of an answer that is put where C reads it: the number and the place, of both cases at once.
use mathlib.Core.Path.{◌≡◌}
use Prim.Native.Nat.{ℕ}
use Rattle.std.specs.Prelude.{Err, Ok, Result}
use Rattle.refusal.specs.declared.Refusal.{Refusal}
use Rattle.lictor.specs.Answer.{Given}

module _ {A B : Type 0} {given : A → B → Type 0} (number : Result A Refusal → ℕ) (value : Result A Refusal → B → B) where
  pub given_tells : (a : Result A Refusal) {r : ℕ} {old new : B} → Given given a r old new
      → ((x : A) (y from : B) → given x y → (0 ≡ number (Ok x)) × (y ≡ value (Ok x) from)) → ((e : Refusal) (from : B) → (e.number ≡ number (Err e)) × (from ≡ value (Err e) from)) → (r ≡ number a) × (new ≡ value a old)
  unfolding Given
  given_tells (Ok x) {r} {old} {new} w accepted refused = rw w.0 (accepted x new old w.1)
  given_tells (Err e) {r} {old} {new} w accepted refused = rw (w.0, w.1) (refused e old)
