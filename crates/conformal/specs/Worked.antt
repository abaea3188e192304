-- Worked calibrations and time bins, by computation.
use Rattle.refusal.specs.declared.Refusal.{Refusal}
use Rattle.std.specs.Prelude.{ℕ, ◌≡◌, refl, true, false, List, [], ◌∷◌, map, replicate, Float, Err, Ok, Result}
use Rattle.std.specs.Float.{nan}
use Rattle.std.specs.Float.Ieee.{is_nan}
use Rattle.refusal.specs.Order.{refused_for}
use Rattle.checked.specs.Constants.{1! }
use Rattle.checked.specs.Each.{all, every}
use Rattle.checked.specs.Finite.{+0, finite, all_finite, all_above_zero}
use Rattle.bits.specs.Bits.{bit}
use Rattle.conformal.specs.Rule.{Tables, bin_at}
use Rattle.conformal.specs.Refusals.{sizes_ok, numbers_ok, features_ok, scores_ok}
use Rattle.conformal.specs.Answer.{judged, time_bin_of}
use Rattle.conformal.specs.declared.Calibration.{Calibration}
use Rattle.conformal.specs.declared.Scores.{Scores}

-- a calibration by its mask, its count of terms, its first two terms and tau
abbrev by : ℕ → ℕ → ℕ → ℕ → Float → Calibration
by mask n first second tau = record { mask = mask; gate = record { n_terms = n; terms = first ∷ second ∷ 0 ∷ 0 ∷ 0 ∷ 0 ∷ 0 ∷ 0 ∷ [] }; tau = tau }

-- scores of zeros, with s
abbrev scores : Float → Scores
scores s = record { f = replicate 12 +0; z = replicate 12 +0; s = s; valid = 0; fired = 0 }

zeros_pass : scores_ok (scores +0) ≡ true
unfolding scores_ok all_finite all every finite is_nan
zeros_pass = refl

nan_fails : scores_ok (scores nan) ≡ false
unfolding scores_ok all_finite all every finite is_nan
nan_fails = refl

-- with any tables that are accepted
module _ (t : Tables) (centers : all_finite t.center 192 ≡ true) (scales : all_above_zero t.scale 192 ≡ true) where
  abbrev number : Float → Calibration → ℕ
  number s cal = judged cal t (scores s) true

  -- Stall's bit, 128, between its neighbours, in the mask; a bit above 11 comes first
  pub of_masks : map (λ (mask : ℕ). number +0 (by mask 0 0 0 1!)) (64 ∷ 128 ∷ 256 ∷ 127 ∷ 255 ∷ 3967 ∷ 4095 ∷ 4224 ∷ []) ≡ (0 ∷ 17 ∷ 0 ∷ 0 ∷ 17 ∷ 0 ∷ 17 ∷ 1 ∷ [])
  unfolding judged sizes_ok numbers_ok features_ok all every finite bit
  of_masks = rw (zeros_pass, centers, scales)

  -- in the second term, which counts where two terms do
  pub of_terms : map (λ (n : ℕ). number +0 (by 1 n 1 128 1!)) (0 ∷ 1 ∷ 2 ∷ 8 ∷ 9 ∷ []) ≡ (0 ∷ 0 ∷ 17 ∷ 17 ∷ 1 ∷ [])
  unfolding judged sizes_ok numbers_ok features_ok all every finite bit
  of_terms = rw (zeros_pass, centers, scales)

  -- after 2, for a tau that is a NaN, and before 12, for an s that is one
  pub of_order : (number nan (by 128 0 0 0 nan) ∷ number nan (by 128 0 0 0 1!) ∷ number nan (by 64 0 0 0 1!) ∷ []) ≡ (2 ∷ 17 ∷ 12 ∷ [])
  unfolding judged sizes_ok numbers_ok features_ok all every finite bit
  of_order = rw (nan_fails, centers, scales)

-- the answers for several ticks
abbrev answers : List ℕ → ℕ → List (Result ℕ Refusal)
answers ticks horizon = map (λ (t : ℕ). time_bin_of t horizon) ticks

-- 200 ticks: 0 to 13 are in the first bin, 14 begins the second, and the last bin has the ticks after the horizon too
pub of_200 : answers (0 ∷ 1 ∷ 12 ∷ 13 ∷ 14 ∷ 188 ∷ 189 ∷ 200 ∷ 201 ∷ []) 200 ≡ (Ok 0 ∷ Ok 0 ∷ Ok 0 ∷ Ok 0 ∷ Ok 1 ∷ Ok 14 ∷ Ok 15 ∷ Ok 15 ∷ Ok 15 ∷ [])
unfolding time_bin_of bin_at
of_200 = refl

-- the largest tick, on the longest horizon and on the shortest
pub of_the_largest : (time_bin_of 4294967295 4294967295 ∷ time_bin_of 4294967295 1 ∷ []) ≡ (Ok 15 ∷ Ok 15 ∷ [])
unfolding time_bin_of bin_at
of_the_largest = refl

-- no ticks
pub of_none : answers (0 ∷ 1 ∷ 200 ∷ []) 0 ≡ (Err (refused_for 3) ∷ Err (refused_for 3) ∷ Err (refused_for 3) ∷ [])
unfolding time_bin_of
of_none = refl
