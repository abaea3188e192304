-- No other number of the format is as near to the exact root: in units of the smallest value, a number below the root y = r * 2 ^ i lies at least 2 ^ i below it,
-- or the root is at least y and any number below y is farther; and likewise above. At either format.
use Rattle.std.proofs.Common.{◌≡◌, ℕ, zero, suc, ◌+◌, ◌-◌, ◌*◌, ◌/◌, ◌%◌, ◌^◌, ◌<◌, ◌≤◌, Bool, true, false, ◌&&◌, T, eqb, ltb, leb, ℤ, sym, ap, ◌∙◌, subst, subst₂, le_trans, lt_of_lt_of_le, lt_of_le_of_lt, le_of_lt, mul-le-mul_right, mul_assoc, suc-mul, mul_comm, add-mul, mul-le-mul_left, mul-lt-mul_of_pos_right, mul-pos, one-mul, lt_of_not-le, mul_right_comm, not-le_of_lt, arith, ltb→lt, lt→ltb, pow_pos, pow_mono, pow-add, ltb-true}
use native.Mathlib.Decide.{dec_le}
use lib.Ieee.{Float, nan, inf, fin, Format, binary32, binary64, prec, emax, low, up, down, size, odd, fits, lt}
use lib.Ieee.Digits.{size-le}
use lib.Ieee.Exact.{HasValue, odd_sign}
use lib.Ieee.Fits.{odd-fits, nan-fits, and_r}
use lib.Ieee.Positive.{num, den, den_pos, positive, value→cross, positive_of_value}
use Rattle.root.specs.Root.{near_root, root_of}
use Rattle.root.specs.Rule.{Near, not_negative, NearestRoot, MidBelow, MidAbove}
use Rattle.root.proofs.Floor.{sq_twice, sq_le}
use Rattle.root.proofs.Units.{pairs, pairs_is, size_shift, squares, four_pos}
use Rattle.root.proofs.Rule.{prec_pos, whole_of, whole_ge, root_near, root_ge, root_lt, root_is, weighed, InUnits, in_its_units, positive_not_negative, some_units}

-- ---- squares of multiples of 2 ^ i

sq_lt : (a b : ℕ) → a < b → a * a < b * b
sq_lt a b h = lt_of_le_of_lt (mul-le-mul_left a (le_of_lt h)) (mul-lt-mul_of_pos_right h (lt_of_le_of_lt zero≤ h))
  where
    zero≤ : 0 ≤ a
    zero≤ = omega arith

shift_sq : (r i : ℕ) → r * 2 ^ i * (r * 2 ^ i) ≡ r * r * 4 ^ i
shift_sq r i =
    sym (mul_assoc (r * 2 ^ i) r (2 ^ i))
    ∙ ap (λ (y : ℕ). y * 2 ^ i) (mul_right_comm r (2 ^ i) r)
    ∙ mul_assoc (r * r) (2 ^ i) (2 ^ i)
    ∙ ap (λ (y : ℕ). r * r * y) (sym (squares i))

cancel_lt : (a b u : ℕ) → a * u < b * u → a < b
cancel_lt a b u h = lt_of_not-le (λ (g : b ≤ a). not-le_of_lt h (mul-le-mul_right u g))

-- ---- the grid: a number a * 2 ^ j of at most p digits beside r * 2 ^ i of p digits

module _ (p r i a j : ℕ) (P : 0 < p) (R : 2 ^ (p - 1) ≤ r) (A : a < 2 ^ p) where
  abbrev u : ℕ
  u = 2 ^ i

  -- j below i: the number is below 2 ^ (p - 1) * 2 ^ i
  coarse : j < i → a * 2 ^ j < 2 ^ (p - 1) * u
  coarse h =
      let e : p + j ≤ p - 1 + i = omega arith in
      lt_of_lt_of_le (mul-lt-mul_of_pos_right A (pow_pos j)) (subst₂ (λ (x y : ℕ). x ≤ y) (pow-add 2 p j) (pow-add 2 (p - 1) i) (pow_mono e))

  -- i at most j: it is a multiple of 2 ^ i
  multiple : i ≤ j → a * 2 ^ j ≡ a * 2 ^ (j - i) * u
  multiple h =
      let e : j ≡ j - i + i = omega arith in
      ap (λ (y : ℕ). a * 2 ^ y) e ∙ ap (λ (y : ℕ). a * y) (pow-add 2 (j - i) i) ∙ sym (mul_assoc a (2 ^ (j - i)) u)

  next : (b c : ℕ) → b * u < c * u → b * u + u ≤ c * u
  next b c h = subst (λ (y : ℕ). y ≤ c * u) (suc-mul b u) (mul-le-mul_right u (cancel_lt b c u h))

  gap_below : 2 ^ (p - 1) < r → a * 2 ^ j < r * u → a * 2 ^ j + u ≤ r * u
  gap_below g h = go (dec_le i j)
    where
      go : Dec (i ≤ j) → a * 2 ^ j + u ≤ r * u
      go (yes k) = rw (multiple k) (next (a * 2 ^ (j - i)) r (rw (multiple k) at h))
      go (no k) =
          let c = coarse (lt_of_not-le k) in
          let m = next (2 ^ (p - 1)) r (mul-lt-mul_of_pos_right g (pow_pos i)) in
          omega arith

  gap_above : r * u < a * 2 ^ j → r * u + u ≤ a * 2 ^ j
  gap_above h = go (dec_le i j)
    where
      go : Dec (i ≤ j) → r * u + u ≤ a * 2 ^ j
      go (yes k) = rw (multiple k) (next r (a * 2 ^ (j - i)) (rw (multiple k) at h))
      go (no k) =
          let c = coarse (lt_of_not-le k) in
          let m = mul-le-mul_right u R in
          absurd (omega arith)

-- ---- the middle of the root and another number, squared, in units

module _ (p r x i a j : ℕ) (P : 0 < p) (R : 2 ^ (p - 1) ≤ r) (X : 2 ^ (p - 1) * 2 ^ (p - 1) ≤ x) (A : a < 2 ^ p) (N : Near r x) where
  abbrev y : ℕ
  y = r * 2 ^ i

  abbrev z : ℕ
  z = a * 2 ^ j

  twice_sq : (y + y) * (y + y) ≡ 4 * (r * r) * 4 ^ i
  twice_sq = ap (λ (t : ℕ). t * t) (sym (two r (2 ^ i))) ∙ shift_sq (2 * r) i ∙ ap (λ (t : ℕ). t * 4 ^ i) (sq_twice r)
    where
      two : (r u : ℕ) → 2 * r * u ≡ r * u + r * u
      two r u = mul_assoc 2 r u ∙ omega arith

  mid_below : z < y → (y + z) * (y + z) < 4 * x * 4 ^ i
  mid_below h = go (dec_le (r * r) x)
    where
      go : Dec (r * r ≤ x) → (y + z) * (y + z) < 4 * x * 4 ^ i
      go (yes k) =
          lt_of_lt_of_le (sq_lt (y + z) (y + y) (omega arith))
          (subst (λ (t : ℕ). t ≤ 4 * x * 4 ^ i) (sym twice_sq) (mul-le-mul_right (4 ^ i) (mul-le-mul_left 4 k)))
      go (no k) =
          let big : 2 ^ (p - 1) < r = lt_of_not-le (λ (g : r ≤ 2 ^ (p - 1)). k (le_trans (sq_le g) X)) in
          let g = gap_below p r i a j P R A big h in
          let e : (2 * r - 1) * 2 ^ i + 2 ^ i ≡ r * 2 ^ i + r * 2 ^ i = odd-down r (2 ^ i) (lt_of_lt_of_le (pow_pos (p - 1)) R) in
          let l : y + z ≤ (2 * r - 1) * 2 ^ i = omega arith in
          lt_of_le_of_lt (sq_le l) (subst (λ (t : ℕ). t < 4 * x * 4 ^ i) (sym (shift_sq (2 * r - 1) i)) (mul-lt-mul_of_pos_right N.0 (four_pos i)))
        where
          odd-down : (r u : ℕ) → 0 < r → (2 * r - 1) * u + u ≡ r * u + r * u
          odd-down r u q = sym (suc-mul (2 * r - 1) u) ∙ ap (λ (t : ℕ). t * u) (one_more r q) ∙ mul_assoc 2 r u ∙ omega arith
            where
              one_more : (r : ℕ) → 0 < r → suc (2 * r - 1) ≡ 2 * r
              one_more r q = omega arith

  mid_above : y < z → 4 * x * 4 ^ i < (y + z) * (y + z)
  mid_above h = go (dec_le x (r * r))
    where
      go : Dec (x ≤ r * r) → 4 * x * 4 ^ i < (y + z) * (y + z)
      go (yes k) =
          lt_of_le_of_lt (subst (λ (t : ℕ). 4 * x * 4 ^ i ≤ t) (sym twice_sq) (mul-le-mul_right (4 ^ i) (mul-le-mul_left 4 k)))
          (sq_lt (y + y) (y + z) (omega arith))
      go (no k) =
          let g = gap_above p r i a j P R A h in
          let e : (2 * r + 1) * 2 ^ i ≡ r * 2 ^ i + r * 2 ^ i + 2 ^ i = odd-up r (2 ^ i) in
          let l : (2 * r + 1) * 2 ^ i ≤ y + z = omega arith in
          lt_of_lt_of_le (subst (λ (t : ℕ). 4 * x * 4 ^ i < t) (sym (shift_sq (2 * r + 1) i)) (mul-lt-mul_of_pos_right N.1 (four_pos i))) (sq_le l)
        where
          odd-up : (r u : ℕ) → (2 * r + 1) * u ≡ r * u + r * u + u
          odd-up r u = add-mul (2 * r) 1 u ∙ (let a = mul_assoc 2 r u in let b = one-mul u in omega arith)

-- ---- from units to the numbers themselves

mul_sq : (a b : ℕ) → a * b * (a * b) ≡ a * a * (b * b)
mul_sq a b = sym (mul_assoc (a * b) a b) ∙ ap (λ (t : ℕ). t * b) (mul_right_comm a b a) ∙ mul_assoc (a * a) b b

-- numerators and denominators of y, z and x; their numbers of units, of 1 / l and of 1 / (l * l)
module _ (ny dy nz dz nx dx Y Z n l : ℕ) (ey : ny * l ≡ Y * dy) (ez : nz * l ≡ Z * dz) (ex : nx * (l * l) ≡ n * dx) where
  abbrev S : ℕ
  S = ny * dz + nz * dy

  abbrev D : ℕ
  D = dy * dz

  sum_units : S * l ≡ (Y + Z) * D
  sum_units =
      add-mul (ny * dz) (nz * dy) l
      ∙ ap (λ (t : ℕ). t + nz * dy * l) (mul_right_comm ny dz l ∙ ap (λ (t : ℕ). t * dz) ey ∙ mul_assoc Y dy dz)
      ∙ ap (λ (t : ℕ). Y * D + t) (mul_right_comm nz dy l ∙ ap (λ (t : ℕ). t * dy) ez ∙ mul_assoc Z dz dy ∙ ap (λ (t : ℕ). Z * t) (mul_comm dz dy))
      ∙ sym (add-mul Y Z D)

  left_units : S * S * dx * (l * l) ≡ (Y + Z) * (Y + Z) * (D * D * dx)
  left_units =
      mul_right_comm (S * S) dx (l * l)
      ∙ ap (λ (t : ℕ). t * dx) (sym (mul_sq S l) ∙ ap (λ (t : ℕ). t * t) sum_units ∙ mul_sq (Y + Z) D)
      ∙ mul_assoc ((Y + Z) * (Y + Z)) (D * D) dx

  right_units : 4 * nx * (D * D) * (l * l) ≡ 4 * n * (D * D * dx)
  right_units =
      mul_right_comm (4 * nx) (D * D) (l * l)
      ∙ ap (λ (t : ℕ). t * (D * D)) (mul_assoc 4 nx (l * l) ∙ ap (λ (t : ℕ). 4 * t) ex ∙ sym (mul_assoc 4 n dx))
      ∙ mul_right_comm (4 * n) dx (D * D)
      ∙ mul_assoc (4 * n) (D * D) dx

  module _ (P : 0 < D * D * dx) where
    pub from_below : (Y + Z) * (Y + Z) < 4 * n → S * S * dx < 4 * nx * (D * D)
    from_below h = cancel_lt (S * S * dx) (4 * nx * (D * D)) (l * l) (rw (left_units, right_units) (mul-lt-mul_of_pos_right h P))

    pub from_above : 4 * n < (Y + Z) * (Y + Z) → 4 * nx * (D * D) < S * S * dx
    from_above h = cancel_lt (4 * nx * (D * D)) (S * S * dx) (l * l) (rw (left_units, right_units) (mul-lt-mul_of_pos_right h P))

-- the order of two numbers that are not negative, in units
lt_cross : (x y : Float) → T (not_negative x) → T (not_negative y) → lt x y ≡ true → num x * den y < num y * den x
unfolding lt
lt_cross nan y p q h = absurd p
lt_cross (inf s) y p q h = absurd p
lt_cross (fin true m e) y p q h = absurd p
lt_cross (fin false m e) nan p q h = absurd q
lt_cross (fin false m e) (inf t) p q h = absurd q
lt_cross (fin false m e) (fin true n d) p q h = absurd q
lt_cross (fin false m e) (fin false n d) p q h = ltb-true _ _ h

lt_units : (x y : Float) (a b l : ℕ) → 0 < l → T (not_negative x) → T (not_negative y) → num x * l ≡ a * den x → num y * l ≡ b * den y → lt x y ≡ true → a < b
lt_units x y a b l L p q ex ey h =
    cancel_lt a b (den x * den y)
    (subst₂ (λ (s t : ℕ). s < t)
    (mul_right_comm (num x) (den y) l ∙ ap (λ (t : ℕ). t * den y) ex ∙ mul_assoc a (den x) (den y))
    (mul_right_comm (num y) (den x) l ∙ ap (λ (t : ℕ). t * den x) ey ∙ mul_assoc b (den y) (den x) ∙ ap (λ (t : ℕ). b * t) (mul_comm (den y) (den x)))
    (mul-lt-mul_of_pos_right (lt_cross x y p q h) L))

-- the root is far below the format's largest number
root_room : (f : Format) (z k : ℕ) → z + k ≤ low f + suc (emax f) → prec f + (z + (k + low f) + 1 - 2 * prec f) / 2 ≤ low f + suc (emax f)
root_room binary32 z k h = omega arith
root_room binary64 z k h = omega arith

under_top : (f : Format) (s : Bool) (m : ℕ) (e : ℤ) → T (fits f (fin s (suc m) e)) → suc m * up e < 2 ^ suc (emax f) * down e
unfolding fits
under_top f s m e h =
    ltb→lt (suc m * up e) (2 ^ suc (emax f) * down e)
    (and_r (eqb (suc m % 2) 1 && ltb (suc m) (2 ^ prec f) && leb (down e) (2 ^ low f)) (ltb (suc m * up e) (2 ^ suc (emax f) * down e)) h)

-- a number of the format has fewer units than 2 ^ (low + emax + 1)
few_units : (f : Format) (x : Float) (a : ℕ) → T (fits f x) → T (positive x) → HasValue x false a (2 ^ low f) → a < 2 ^ (low f + suc (emax f))
few_units f nan a h p v = absurd p
few_units f (inf s) a h p v = absurd p
few_units f (fin true m e) a h p v = absurd p
few_units f (fin false zero e) a h p v = absurd p
few_units f (fin false (suc m) e) a h p v =
    cancel_lt a (2 ^ (low f + suc (emax f))) (down e)
    (subst₂ (λ (s t : ℕ). s < t) v.1
    (mul_right_comm (2 ^ suc (emax f)) (down e) (2 ^ low f) ∙ ap (λ (t : ℕ). t * down e) (mul_comm (2 ^ suc (emax f)) (2 ^ low f) ∙ sym (pow-add 2 (low f) (suc (emax f)))))
    (mul-lt-mul_of_pos_right (under_top f false m e h) (pow_pos (low f))))

module _ (f : Format) (x : Float) (h : T (fits f x)) (p : T (positive x)) where
  own : InUnits f x
  own = in_its_units f x h (positive_not_negative x p)

  some : 0 < own.q
  some = some_units f x own p

  abbrev X : ℕ
  X = whole_of f own.q own.k (some) own.few

  abbrev R : ℕ
  R = near_root (prec f) X

  abbrev i : ℕ
  i = pairs (prec f) (own.q * 2 ^ (own.k + low f))

  is : root_of f x ≡ odd (prec f) false R i (low f)
  is = root_is f own.q own.k (some) own.few x h own.value

  value : HasValue (root_of f x) false (R * 2 ^ i) (2 ^ low f)
  value = subst (λ (v : Float). HasValue v false (R * 2 ^ i) (2 ^ low f)) (sym is) (odd_sign (prec f) false R i (low f))

  room : R * 2 ^ i < 2 ^ (low f + suc (emax f))
  room =
      let w = own in
      let s : size w.q + w.k ≤ low f + suc (emax f) =
      subst (λ (t : ℕ). t ≤ low f + suc (emax f)) (size_shift w.q w.k (some)) (size-le (w.q * 2 ^ w.k) (low f + suc (emax f)) (few_units f x (w.q * 2 ^ w.k) h p w.value)) in
      let t = subst (λ (j : ℕ). prec f + j ≤ low f + suc (emax f)) (sym (pairs_is (prec f) w.q (w.k + low f) (some))) (root_room f (size w.q) w.k s) in
      lt_of_lt_of_le (mul-lt-mul_of_pos_right (root_lt f w.q w.k (some) w.few) (pow_pos i)) (subst (λ (y : ℕ). y ≤ 2 ^ (low f + suc (emax f))) (pow-add 2 (prec f) i) (pow_mono t))

  holds : T (fits f (root_of f x))
  holds =
      let w = own in
      let l = root_lt f w.q w.k (some) w.few in
      subst (λ (v : Float). T (fits f v)) (sym is) (odd-fits f (prec f) false R i l (le_of_lt l) room)

  root_pos : T (positive (root_of f x))
  root_pos = let w = own in positive_of_value (root_of f x) (R * 2 ^ i) (2 ^ low f) value (mul-pos (lt_of_lt_of_le (pow_pos (prec f - 1)) (root_ge f w.q w.k (some) w.few)) (pow_pos i))

  abbrev l : ℕ
  l = 2 ^ low f

  ex : num x * (l * l) ≡ X * 4 ^ i * den x
  ex = let w = own in ap (λ (t : ℕ). num x * t) (sym (squares (low f))) ∙ weighed f w.q w.k (some) w.few x w.value

  ey : num (root_of f x) * l ≡ R * 2 ^ i * den (root_of f x)
  ey = value→cross (root_of f x) (R * 2 ^ i) l value

  module _ (z : Float) (hz : T (fits f z)) (pz : T (not_negative z)) where
    other : InUnits f z
    other = in_its_units f z hz pz

    abbrev Z : ℕ
    Z = other.q * 2 ^ other.k

    ez : num z * l ≡ Z * den z
    ez = value→cross z Z l other.value

    parts_pos : 0 < den (root_of f x) * den z * (den (root_of f x) * den z) * den x
    parts_pos = let d = mul-pos (den_pos (root_of f x)) (den_pos z) in mul-pos (mul-pos d d) (den_pos x)

    farther_below : lt z (root_of f x) ≡ true → MidBelow (root_of f x) z x
    farther_below h =
        let w = own in
        let o = other in
        from_below (num (root_of f x)) (den (root_of f x)) (num z) (den z) (num x) (den x) (R * 2 ^ i) Z (X * 4 ^ i) l ey ez ex parts_pos
        (subst (λ (t : ℕ). (R * 2 ^ i + Z) * (R * 2 ^ i + Z) < t) (mul_assoc 4 X (4 ^ i))
        (mid_below (prec f) R X i o.q o.k (prec_pos f) (root_ge f w.q w.k (some) w.few) (whole_ge f w.q w.k (some) w.few) o.few (root_near f w.q w.k (some) w.few)
        (lt_units z (root_of f x) Z (R * 2 ^ i) l (pow_pos (low f)) pz (positive_not_negative (root_of f x) root_pos) ez ey h)))

    farther_above : lt (root_of f x) z ≡ true → MidAbove (root_of f x) z x
    farther_above h =
        let w = own in
        let o = other in
        from_above (num (root_of f x)) (den (root_of f x)) (num z) (den z) (num x) (den x) (R * 2 ^ i) Z (X * 4 ^ i) l ey ez ex parts_pos
        (subst (λ (t : ℕ). t < (R * 2 ^ i + Z) * (R * 2 ^ i + Z)) (mul_assoc 4 X (4 ^ i))
        (mid_above (prec f) R X i o.q o.k (prec_pos f) (root_ge f w.q w.k (some) w.few) (whole_ge f w.q w.k (some) w.few) o.few (root_near f w.q w.k (some) w.few)
        (lt_units (root_of f x) z (R * 2 ^ i) Z l (pow_pos (low f)) (positive_not_negative (root_of f x) root_pos) pz ey ez h)))

  -- THE SENTENCE: the root of a number above zero is the number of the format that is nearest to the exact root
  pub root_nearest : NearestRoot f x (root_of f x)
  root_nearest = record { held = holds; above = root_pos; under = farther_below; over = farther_above }

-- the root of any number of the format is held by the format: of a zero it is that zero, and where there is none it is a NaN
pub root_fits : (f : Format) (x : Float) → T (fits f x) → T (fits f (root_of f x))
unfolding root_of
root_fits f nan h = nan-fits f
root_fits f (inf s) h = nan-fits f
root_fits f (fin s zero e) h = h
root_fits f (fin true (suc m) e) h = nan-fits f
root_fits f (fin false (suc m) e) h = holds f (fin false (suc m) e) h (lt→ltb 0 (suc m) (omega arith))
