-- norm and dist: they tell of each number on the way, and they are a NaN where a coordinate is missing. A distance is a number of the format.
use Prim.Native.Nat.{ℕ, ◌≤◌, ◌<◌}
use mathlib.Core.Path.{◌≡◌, refl, sym, ap, ◌∙◌}
use mathlib.Core.Bool.{Bool, true, false≢true}
use mathlib.Core.List.{List}
use native.Mathlib.Nat.{le_refl, lt_of_not-le}
use native.Mathlib.Decide.{dec_le}
use lib.Dec.{T}
use lib.ListN.{length, get_or-eq_default}
use lib.Ieee.{Float, Format, nan, lt, sub, fits}
use Rattle.checked.specs.Each.{at}
use Rattle.checked.specs.Finite.{finite, +0}
use Rattle.checked.specs.Checked.{sum_from}
use Rattle.fmath.specs.Norm.{square_at, norm, squared_gap, dist}
use Rattle.root.proofs.Nearest.{root_fits}
use Rattle.checked.proofs.Each.{and_left}
use Rattle.checked.proofs.Absorbing.{fine_sub_left, fine_mul_left, fine_root, sub_nan, nan_sub, nan_mul, root_nan}
use Rattle.checked.proofs.Ordered.{below_nan}
use Rattle.checked.proofs.Sums.{sum_fits, sum_nan, sum_sees, sum_same}
use Rattle.checked.proofs.Told.{Tells, implied, told, sum_tells}

-- the entry after the last
past : (v : List Float) → at v (length v) ≡ nan
past v = get_or-eq_default v nan (le_refl (length v))

module _ (f : Format) where
  pub gap_tells : (a b : List Float) (j : ℕ) → Tells (squared_gap f a b j)
  unfolding squared_gap
  gap_tells a b j = implied _ _ (fine_mul_left f (sub f (at a j) (at b j)) (sub f (at a j) (at b j)))

  pub square_tells : (v : List Float) (j : ℕ) → Tells (square_at f v j)
  unfolding square_at
  square_tells v j = refl

  pub dist_tells : (a b : List Float) (n : ℕ) → Tells (dist f a b n)
  unfolding dist finite
  dist_tells a b n = told _ _ _ (sum_tells f +0 (squared_gap f a b) refl (gap_tells a b) n) (fine_root f (sum_from f +0 (squared_gap f a b) n).value)

  -- a distance is a number of the format
  pub dist_fits : (a b : List Float) (n : ℕ) → T (fits f (dist f a b n).value)
  unfolding dist fits
  dist_fits a b n = root_fits f (sum_from f +0 (squared_gap f a b) n).value (sum_fits f +0 (squared_gap f a b) tt n)

  -- of points that agree on the coordinates that are read
  pub dist_same : (a b c d : List Float) (n : ℕ) → ((j : ℕ) → j < n → at a j ≡ at c j) → ((j : ℕ) → j < n → at b j ≡ at d j) → dist f a b n ≡ dist f c d n
  unfolding dist squared_gap
  dist_same a b c d n e h = rw (sum_same (squared_gap f a b) (squared_gap f c d) f +0 n (λ j l. rw (e j l, h j l)))

  pub norm_tells : (v : List Float) (n : ℕ) → Tells (norm f v n)
  unfolding norm finite
  norm_tells v n = told _ _ _ (sum_tells f +0 (square_at f v) refl (square_tells v) n) (fine_root f (sum_from f +0 (square_at f v) n).value)

  pub norm_missing : (v : List Float) (n : ℕ) → length v < n → (norm f v n).value ≡ nan
  unfolding norm square_at
  norm_missing v n h =
      rw (sum_nan f +0 (square_at f v) n (length v) h (rw (past v) (nan_mul f nan))) (root_nan f)

  gap_missing : (a b : List Float) (n j : ℕ) → j < n → (squared_gap f a b j).value ≡ nan → (dist f a b n).value ≡ nan
  unfolding dist
  gap_missing a b n j h e = rw (sum_nan f +0 (squared_gap f a b) n j h e) (root_nan f)

  pub dist_missing_left : (a b : List Float) (n : ℕ) → length a < n → (dist f a b n).value ≡ nan
  unfolding squared_gap
  dist_missing_left a b n h = gap_missing a b n (length a) h (rw (past a, nan_sub f (at b (length a))) (nan_mul f nan))

  pub dist_missing_right : (a b : List Float) (n : ℕ) → length b < n → (dist f a b n).value ≡ nan
  unfolding squared_gap
  dist_missing_right a b n h = gap_missing a b n (length b) h (rw (past b, sub_nan f (at a (length b))) (nan_mul f nan))

  -- the test of a distance is that of each number on its way
  pub dist_sound : (a b : List Float) (n : ℕ) {d : Float} {k : Bool} → d ≡ (dist f a b n).value → k ≡ finite d → k ≡ (dist f a b n).sound
  dist_sound a b n e h = h ∙ ap finite e ∙ sym (dist_tells a b n)

  -- a distance that is sound is one of finite coordinates
  pub dist_sees : (a b : List Float) (n j : ℕ) → j < n → (dist f a b n).sound ≡ true → finite (at a j) ≡ true
  unfolding dist squared_gap
  dist_sees a b n j l h =
      let d = sub f (at a j) (at b j) in
      let e = sum_sees f +0 (squared_gap f a b) n j l (and_left (sum_from f +0 (squared_gap f a b) n).sound _ h) in
      fine_sub_left f (at a j) (at b j) (and_left (finite d) _ e)

  -- where a distance exceeds something, both have all n coordinates
  pub dist_there : (most : Float) (a b : List Float) (n : ℕ) {d : Float} → d ≡ (dist f a b n).value → lt most d ≡ true → (n ≤ length a) × (n ≤ length b)
  dist_there most a b n e t = (go (length a) (dist_missing_left a b n), go (length b) (dist_missing_right a b n))
    where
      go : (m : ℕ) → (m < n → (dist f a b n).value ≡ nan) → n ≤ m
      go m missing = go' (dec_le n m)
        where
          go' : Dec (n ≤ m) → n ≤ m
          go' (yes h) = h
          go' (no h) = absurd (false≢true (sym (ap (lt most) (e ∙ missing (lt_of_not-le h)) ∙ below_nan most) ∙ t))
