-- How far the finite entries reach, one entry more at a time; and the first that is not finite, where there is one.
use mathlib.Core.Path.{◌≡◌, refl}
use mathlib.Core.Bool.{Bool, true, false, ◌&&◌}
use mathlib.Core.Logic.{◌⊎◌, inl, inr}
use Prim.Native.Nat.{ℕ, zero, suc, ◌+◌, ◌≤◌, ◌<◌}
use native.Mathlib.Numerals.{add-one}
use native.Mathlib.Omega.{arith}
use Rattle.std.specs.Prelude.{if◌then◌else◌}
use Rattle.checked.specs.Each.{all}
use Rattle.course.specs.Forecast.{leading}

module _ (ok : ℕ → Bool) where
  pub all_next : (k : ℕ) → all ok (k + 1) ≡ all ok k && ok k
  unfolding all
  all_next k = rw add-one

  pub leading_whole : (k : ℕ) → all ok k ≡ true → leading ok k ≡ k
  unfolding leading
  leading_whole zero h = refl
  leading_whole (suc k) h = rw h

  -- one entry more that is finite, and one that is not
  pub leading_more : (k : ℕ) → all ok (k + 1) ≡ true → leading ok (k + 1) ≡ k + 1
  leading_more k h = leading_whole (k + 1) h

  pub leading_stays : (k : ℕ) → all ok (k + 1) ≡ false → leading ok (k + 1) ≡ leading ok k
  unfolding leading
  leading_stays k h = rw add-one (go (rw add-one at h))
    where
      go : all ok (suc k) ≡ false → leading ok (suc k) ≡ leading ok k
      go e = rw e

  pub leading_le : (n : ℕ) → leading ok n ≤ n
  unfolding leading
  leading_le zero = omega arith
  leading_le (suc n) = go (all ok (suc n)) (leading_le n)
    where
      go : (b : Bool) → leading ok n ≤ n → (if b then suc n else leading ok n) ≤ suc n
      go true h = omega arith
      go false h = omega arith

  -- all of the first n are finite, or one of them is the first that is not
  pub first_or_all : (n : ℕ) → ((k : ℕ) × (k < n) × (all ok k ≡ true) × (ok k ≡ false)) ⊎ (all ok n ≡ true)
  unfolding all
  first_or_all zero = inr refl
  first_or_all (suc n) = go (first_or_all n)
    where
      last : all ok n ≡ true → (b : Bool) → ok n ≡ b → ((k : ℕ) × (k < suc n) × (all ok k ≡ true) × (ok k ≡ false)) ⊎ (all ok (suc n) ≡ true)
      last h true e = inr (rw (h, e))
      last h false e = inl (n, omega arith, h, e)

      go : ((k : ℕ) × (k < n) × (all ok k ≡ true) × (ok k ≡ false)) ⊎ (all ok n ≡ true) → ((k : ℕ) × (k < suc n) × (all ok k ≡ true) × (ok k ≡ false)) ⊎ (all ok (suc n) ≡ true)
      go (inl w) = inl (w.0, omega (arith, w.1), w.2, w.3)
      go (inr h) = last h (ok n) refl
