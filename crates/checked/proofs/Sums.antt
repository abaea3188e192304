-- Sums of checked numbers, and checked numbers put over a list: one turn of a loop that keeps the sum so far, that the sum is a number of the format, that a NaN
-- among them makes it a NaN, and that numbers which agree give the same.
use mathlib.Core.Path.{◌≡◌, refl}
use mathlib.Core.Bool.{true}
use mathlib.Core.List.{List}
use Prim.Native.Nat.{ℕ, zero, suc, ◌+◌, ◌<◌}
use native.Mathlib.Numerals.{add-one}
use native.Mathlib.Omega.{arith}
use borrow.Author.Count.{below_more}
use lib.Dec.{T}
use lib.Ieee.{Float, Format, nan, add, fits}
use lib.Ieee.Fits.{add-fits}
use Rattle.checked.specs.Each.{over}
use Rattle.checked.specs.Checked.{Checked, sum_from, each}
use Rattle.checked.proofs.Each.{and_left, and_right}
use Rattle.checked.proofs.Absorbing.{add_nan, nan_add}

module _ (f : Format) (z : Float) (g : ℕ → Checked Float) where
  pub sum_more : (i : ℕ) (s x : Float) → s ≡ (sum_from f z g i).value → x ≡ (g i).value → add f s x ≡ (sum_from f z g (i + 1)).value
  unfolding sum_from
  sum_more i s x e h = rw (add-one, e, h)

  -- from a number of the format on, the sum is one
  pub sum_fits : T (fits f z) → (n : ℕ) → T (fits f (sum_from f z g n).value)
  unfolding sum_from
  sum_fits h zero = h
  sum_fits h (suc n) = add-fits f (sum_from f z g n).value (g n).value

  -- a NaN among the summands
  pub sum_nan : (n j : ℕ) → j < n → (g j).value ≡ nan → (sum_from f z g n).value ≡ nan
  unfolding sum_from
  sum_nan zero j h e = absurd (omega arith)
  sum_nan (suc n) j h e =
      below_more (λ (i : ℕ). (g i).value ≡ nan → add f (sum_from f z g n).value (g n).value ≡ nan) n
      (λ i l d. rw (sum_nan n i l d) (nan_add f (g n).value))
      (λ d. rw d (add_nan f (sum_from f z g n).value))
      j (omega arith) e

  -- a sum that is sound has sound summands
  pub sum_sees : (n j : ℕ) → j < n → (sum_from f z g n).sound ≡ true → (g j).sound ≡ true
  unfolding sum_from
  sum_sees zero j h e = absurd (omega arith)
  sum_sees (suc n) j h e =
      below_more (λ (i : ℕ). (g i).sound ≡ true) n
      (λ i l. sum_sees n i l (and_left (sum_from f z g n).sound _ e))
      (and_left (g n).sound _ (and_right (sum_from f z g n).sound _ e))
      j (omega arith)

module _ (g h : ℕ → Checked Float) where
  pub sum_same : (f : Format) (z : Float) (n : ℕ) → ((j : ℕ) → j < n → g j ≡ h j) → sum_from f z g n ≡ sum_from f z h n
  unfolding sum_from
  sum_same f z zero e = refl
  sum_same f z (suc n) e = rw (sum_same f z n (λ j b. e j (omega arith)), e n (omega arith))

  pub each_same : (l : List Float) (n : ℕ) → ((j : ℕ) → j < n → g j ≡ h j) → each g l n ≡ each h l n
  unfolding each
  each_same l zero e = refl
  each_same l (suc n) e = rw (each_same l n (λ j b. e j (omega arith)), e n (omega arith))

-- what is put over a list, as values
pub each_over : (g : ℕ → Checked Float) (l : List Float) (n : ℕ) → (each g l n).value ≡ over (λ (j : ℕ). (g j).value) l n
unfolding each over
each_over g l zero = refl
each_over g l (suc n) = rw (each_over g l n)
