-- What holds of the entries of any forecast: what is written, which place is named, and the margin.
use mathlib.Core.Path.{◌≡◌, refl, sym, ap, ◌∙◌}
use mathlib.Core.Bool.{Bool, true, false, not}
use mathlib.Core.Logic.{◌⊎◌, inl, inr}
use mathlib.Core.List.{List}
use Prim.Native.Nat.{ℕ, zero, suc, ◌+◌, ◌-◌, ◌≤◌, ◌<◌}
use native.Mathlib.Nat.{lt_of_not-le}
use native.Mathlib.Decide.{dec_le}
use native.Mathlib.Omega.{arith}
use borrow.Author.Tests.{not-true}
use lib.ListN.{length}
use lib.Ieee.{Float, inf, lt, is_nan}
use Rattle.checked.specs.Each.{at, all}
use Rattle.checked.specs.Finite.{+0}
use Rattle.checked.specs.Least.{least}
use Rattle.checked.proofs.Each.{all_fails, over_at, over_keeps}
use Rattle.checked.proofs.Ordered.{Real, le_not_above, lt_not_below}
use Rattle.checked.proofs.Extremes.{least_real, least_bounds, least_attained}
use Rattle.course.specs.Forecast.{Forecast, fine, slack_at, leading, leading_in, place_of, margin_of, feasible_of, written_of}
use Rattle.course.proofs.Leading.{leading_whole, first_or_all}

infinite_not_negative : lt (inf false) +0 ≡ false
unfolding lt
infinite_not_negative = refl

module _ (t : Forecast) where
  -- every computed number is finite
  abbrev pub Whole : Type 0
  Whole = all (fine t) t.count ≡ true

  pub whole_leads : Whole → leading_in t ≡ t.count
  whole_leads h = leading_whole (fine t) t.count h

  -- the entries before the failing place are written in order, and all others are kept
  pub written_in_order : (l : List Float) (k : ℕ) → k < leading_in t → k < length l → at (written_of t l) k ≡ slack_at t k
  unfolding written_of
  written_in_order l k h b = over_at (slack_at t) l (leading_in t) k h b

  pub others_kept : (l : List Float) (k : ℕ) → leading_in t ≤ k → at (written_of t l) k ≡ at l k
  unfolding written_of
  others_kept l k h = over_keeps (slack_at t) l (leading_in t) k h

  -- the first place with a number that isn't finite is named, with exactly the entries before it written
  leading_stops : (ok : ℕ → Bool) (k n : ℕ) → all ok k ≡ true → ok k ≡ false → k < n → leading ok n ≡ k
  unfolding leading
  leading_stops ok k zero a b h = absurd (omega arith)
  leading_stops ok k (suc n) a b h = rw (all_fails ok (suc n) k h b) (go (dec_le n k) (leading_stops ok k n a b))
    where
      go : Dec (n ≤ k) → (k < n → leading ok n ≡ k) → leading ok n ≡ k
      go (yes l) on = let e : n ≡ k = omega arith in rw e (leading_whole ok k a)
      go (no l) on = on (lt_of_not-le l)

  pub first_failing_place : (k : ℕ) → k < t.count → all (fine t) k ≡ true → fine t k ≡ false → (place_of t ≡ suc k) × (leading_in t ≡ k)
  unfolding place_of
  first_failing_place k h a b =
      let r = leading_stops (fine t) k t.count a b h in
      (rw (all_fails (fine t) t.count k h b, r), r)

  -- where each entry is finite and the stop distance is not, the place after the last entry is named
  pub failing_at_the_end : Whole → t.stop.sound ≡ false → place_of t ≡ suc t.count
  unfolding place_of
  failing_at_the_end h b = rw (h, b)

  -- with a stop distance that is finite, or none: no place is named exactly where each entry is finite, and else the first that isn't
  module _ (sound : t.stop.sound ≡ true) where
    pub all_nowhere : Whole → place_of t ≡ 0
    unfolding place_of
    all_nowhere h = rw (h, sound)

    pub nowhere_all : place_of t ≡ 0 → Whole
    nowhere_all e = go (first_or_all (fine t) t.count)
      where
        go : ((k : ℕ) × (k < t.count) × (all (fine t) k ≡ true) × (fine t k ≡ false)) ⊎ Whole → Whole
        go (inl w) = absurd (let h = (first_failing_place w.0 w.1 w.2 w.3).0 in omega (arith, h, e))
        go (inr h) = h

    pub named : (k : ℕ) → place_of t ≡ suc k → (k < t.count) × (all (fine t) k ≡ true) × (fine t k ≡ false)
    named k e = go (first_or_all (fine t) t.count)
      where
        go : ((k : ℕ) × (k < t.count) × (all (fine t) k ≡ true) × (fine t k ≡ false)) ⊎ Whole → (k < t.count) × (all (fine t) k ≡ true) × (fine t k ≡ false)
        go (inl w) =
            let h = (first_failing_place w.0 w.1 w.2 w.3).0 in
            let i : w.0 ≡ k = omega (arith, h, e) in
            rw (← i) (w.1, w.2, w.3)
        go (inr h) = absurd (let z = all_nowhere h in omega (arith, z, e))

  -- the margin of no entries is infinity; of some it is one of them, and none is below it
  pub empty_margin : t.count ≡ 0 → margin_of t ≡ inf false
  unfolding margin_of least
  empty_margin e = rw e

  pub margin_attained : (n : ℕ) → t.count ≡ suc n → (k : ℕ) × (k < suc n) × (margin_of t ≡ slack_at t k)
  unfolding margin_of
  margin_attained n e = rw e (least_attained (slack_at t) n)

  module _ (real : (k : ℕ) → k < t.count → Real (slack_at t k)) where
    pub margin_least : (k : ℕ) → k < t.count → lt (slack_at t k) (margin_of t) ≡ false
    unfolding margin_of
    margin_least k h = least_bounds (slack_at t) t.count real k h

    -- feasible exactly when no entry is negative
    margin_real : Real (margin_of t)
    unfolding margin_of
    margin_real = least_real (slack_at t) t.count real

    zero_real : Real +0
    unfolding is_nan
    zero_real = tt

    feasible_is : feasible_of t ≡ not (lt (margin_of t) +0)
    feasible_is = le_not_above +0 (margin_of t) zero_real margin_real

    pub feasible_none_negative : feasible_of t ≡ true → (k : ℕ) → k < t.count → lt (slack_at t k) +0 ≡ false
    feasible_none_negative h k b = lt_not_below (slack_at t k) (margin_of t) +0 margin_real (margin_least k b) (not-true (lt (margin_of t) +0) (sym feasible_is ∙ h))

    pub none_negative_feasible : ((k : ℕ) → k < t.count → lt (slack_at t k) +0 ≡ false) → feasible_of t ≡ true
    none_negative_feasible h = feasible_is ∙ ap not (go t.count refl)
      where
        go : (n : ℕ) → t.count ≡ n → lt (margin_of t) +0 ≡ false
        go zero e = rw (empty_margin e) infinite_not_negative
        go (suc n) e = let w = margin_attained n e in rw w.2 (h w.0 (omega (arith, w.1)))
