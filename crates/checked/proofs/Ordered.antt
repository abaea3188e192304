-- The order of floats of either sign: asymmetric, transitive, and total up to equal numbers. At any format, since a comparison is exact.
use mathlib.Core.Path.{◌≡◌, refl, sym, ap, ◌∙◌, subst}
use mathlib.Core.Bool.{Bool, true, false, not, ◌&&◌, ◌||◌, false≢true}
use mathlib.Core.Logic.{◌⊎◌, inl, inr, ⊎_elim}
use Prim.Native.Nat.{ℕ, zero, suc, ◌+◌, ◌*◌, ◌≤◌, ◌<◌}
use native.Mathlib.Nat.{le_of_lt, le_antisymm, lt_of_not-le, suc-mul, zero-mul}
use native.Mathlib.Decide.{dec_le, ℕ_discrete}
use native.Mathlib.Omega.{arith}
use borrow.Author.Tests.{ltb-false, ltb-true, le-ltb, lt-ltb, eq-eqb, ne_eqb}
use lib.Dec.{T, ltb, eqb}
use lib.Ieee.{Float, nan, inf, fin, lt, le, eq, below, up, down, is_nan}
use lib.Ieee.Fits.{down_pos}
use lib.Ieee.Positive.{through}
use Rattle.checked.specs.Finite.{finite}

-- a number, or an infinity
abbrev pub Real : Float → Type 0
Real x = T (not (is_nan x))

pub finite_real : (x : Float) → finite x ≡ true → Real x
unfolding finite is_nan
finite_real nan h = subst T (sym h) tt
finite_real (inf s) h = tt
finite_real (fin s m e) h = tt

-- nothing is below a NaN, nor a NaN below anything
pub below_nan : (x : Float) → lt x nan ≡ false
unfolding lt
below_nan nan = refl
below_nan (inf s) = refl
below_nan (fin s m e) = refl

pub nan_below : (x : Float) → lt nan x ≡ false
unfolding lt
nan_below x = refl

zeroed : (x d : ℕ) → 0 < d → x * d ≤ 0 → x ≡ 0
zeroed zero d h l = refl
zeroed (suc x) d h l = absurd (omega (arith, suc-mul x d))

nil : (x r : ℕ) → x ≡ 0 → x * r ≡ 0
nil x r e = rw (e, zero-mul)

module _ (a p b q c r : ℕ) (hp : 0 < p) (hq : 0 < q) (hr : 0 < r) where
  below_co : (s t u : Bool) → below s (a * q) t (b * p) ≡ false → below t (b * r) u (c * q) ≡ false → below s (a * r) u (c * p) ≡ false
  below_co false false false h k = le-ltb (a * r) (c * p) (through c b a r q p hq (ltb-false _ _ k) (ltb-false _ _ h))
  below_co true true true h k = le-ltb (c * p) (a * r) (through a b c p q r hq (ltb-false _ _ h) (ltb-false _ _ k))
  below_co false false true h k = refl
  below_co false true true h k = refl
  below_co false true false h k =
      let l : b * r + c * q ≤ 0 = ltb-false 0 (b * r + c * q) k in
      le-ltb (a * r) (c * p) (omega (arith, nil c p (zeroed c q hq (omega arith))))
  below_co true false false h k =
      let l : a * q + b * p ≤ 0 = ltb-false 0 (a * q + b * p) h in
      let m : c * q ≤ b * r = ltb-false (b * r) (c * q) k in
      let b0 : b * r ≡ 0 = nil b r (zeroed b p hp (omega arith)) in
      le-ltb 0 (a * r + c * p) (omega (arith, nil a r (zeroed a q hq (omega arith)), nil c p (zeroed c q hq (omega arith))))
  below_co true false true h k =
      let l : a * q + b * p ≤ 0 = ltb-false 0 (a * q + b * p) h in
      le-ltb (c * p) (a * r) (omega (arith, nil a r (zeroed a q hq (omega arith))))
  below_co true true false h k =
      let l : a * q ≤ b * p = ltb-false (b * p) (a * q) h in
      let m : b * r + c * q ≤ 0 = ltb-false 0 (b * r + c * q) k in
      let b0 : b * p ≡ 0 = nil b p (zeroed b r hr (omega arith)) in
      le-ltb 0 (a * r + c * p) (omega (arith, nil a r (zeroed a q hq (omega arith)), nil c p (zeroed c q hq (omega arith))))

-- what is not below y, and y not below z
pub lt_not_below : (x y z : Float) → T (not (is_nan y)) → lt x y ≡ false → lt y z ≡ false → lt x z ≡ false
unfolding lt is_nan
lt_not_below nan y z w h k = refl
lt_not_below (inf s) nan z w h k = absurd w
lt_not_below (inf s) (inf t) nan w h k = refl
lt_not_below (inf s) (fin t n d) nan w h k = refl
lt_not_below (inf true) (inf true) (inf u) w h k = k
lt_not_below (inf true) (inf false) (inf u) w h k = absurd (subst T h tt)
lt_not_below (inf false) (inf t) (inf u) w h k = refl
lt_not_below (inf true) (inf true) (fin u m e) w h k = k
lt_not_below (inf true) (inf false) (fin u m e) w h k = h
lt_not_below (inf false) (inf t) (fin u m e) w h k = refl
lt_not_below (inf true) (fin t n d) (inf u) w h k = absurd (subst T h tt)
lt_not_below (inf false) (fin t n d) (inf u) w h k = refl
lt_not_below (inf s) (fin t n d) (fin u m e) w h k = h
lt_not_below (fin s n d) nan z w h k = absurd w
lt_not_below (fin s n d) (inf t) nan w h k = refl
lt_not_below (fin s n d) (fin t m e) nan w h k = refl
lt_not_below (fin s n d) (inf true) (inf u) w h k = k
lt_not_below (fin s n d) (inf false) (inf u) w h k = absurd (subst T h tt)
lt_not_below (fin s n d) (inf true) (fin u m e) w h k = absurd (subst T k tt)
lt_not_below (fin s n d) (inf false) (fin u m e) w h k = absurd (subst T h tt)
lt_not_below (fin s n d) (fin t m e) (inf u) w h k = k
lt_not_below (fin s n d) (fin t m e) (fin u o i) w h k =
    below_co (n * up d) (down d) (m * up e) (down e) (o * up i) (down i) (down_pos d) (down_pos e) (down_pos i) s t u h k

below_asym : (s t : Bool) (a b : ℕ) → below s a t b ≡ true → below t b s a ≡ false
below_asym false false a b h = le-ltb b a (le_of_lt (ltb-true a b h))
below_asym false true a b h = absurd (subst T (sym h) tt)
below_asym true false a b h = refl
below_asym true true a b h = le-ltb a b (le_of_lt (ltb-true b a h))

-- no two numbers are each below the other
pub lt_asymmetric : (x y : Float) → lt x y ≡ true → lt y x ≡ false
unfolding lt
lt_asymmetric nan nan h = refl
lt_asymmetric nan (inf t) h = refl
lt_asymmetric nan (fin t n d) h = refl
lt_asymmetric (inf s) nan h = refl
lt_asymmetric (inf true) (inf true) h = refl
lt_asymmetric (inf true) (inf false) h = refl
lt_asymmetric (inf false) (inf true) h = absurd (subst T (sym h) tt)
lt_asymmetric (inf false) (inf false) h = refl
lt_asymmetric (inf true) (fin t n d) h = refl
lt_asymmetric (inf false) (fin t n d) h = absurd (subst T (sym h) tt)
lt_asymmetric (fin s m e) nan h = refl
lt_asymmetric (fin s m e) (inf true) h = absurd (subst T (sym h) tt)
lt_asymmetric (fin s m e) (inf false) h = refl
lt_asymmetric (fin s m e) (fin t n d) h = below_asym s t (m * up e * down d) (n * up d * down e) h

split : (b : Bool) → (b ≡ true) ⊎ (b ≡ false)
split true = inl refl
split false = inr refl

pub lt_irrefl : (x : Float) → lt x x ≡ false
lt_irrefl x = ⊎_elim (λ h. lt_asymmetric x x h) (λ h. h) (split (lt x x))

-- what is below something, and what is above it, is a number
pub below_real : (x y : Float) → lt x y ≡ true → Real x
unfolding lt is_nan
below_real nan y h = subst T (sym h) tt
below_real (inf s) y h = tt
below_real (fin s m e) y h = tt

pub lt_transitive : (x y z : Float) → lt x y ≡ true → lt y z ≡ true → lt x z ≡ true
lt_transitive x y z h k = ⊎_elim (λ g. g) (λ g. absurd (clash g)) (split (lt x z))
  where
    clash : lt x z ≡ false → ⊥
    clash g = subst T (sym k ∙ lt_not_below y x z (below_real x y h) (lt_asymmetric x y h) g) tt

-- ---- `le` is "not above"

equal_or_below : (a b : ℕ) → ltb a b || (eqb a b && true) ≡ not (ltb b a)
equal_or_below a b = go (dec_le b a) (dec_le a b)
  where
    go : Dec (b ≤ a) → Dec (a ≤ b) → ltb a b || (eqb a b && true) ≡ not (ltb b a)
    go (yes h) (yes g) = rw (le-ltb a b h, eq-eqb a b (le_antisymm g h), le-ltb b a g)
    go (yes h) (no g) =
        let k : b < a = lt_of_not-le g in
        rw (le-ltb a b h, ne_eqb a b (λ e. g (omega arith)), lt-ltb b a k)
    go (no h) (yes g) = rw (lt-ltb a b (lt_of_not-le h), le-ltb b a g)
    go (no h) (no g) = absurd (let k : a < b = lt_of_not-le h in let l : b < a = lt_of_not-le g in omega arith)

eqb_swap : (a b : ℕ) → eqb a b ≡ eqb b a
eqb_swap a b = go (ℕ_discrete a b)
  where
    go : Dec (a ≡ b) → eqb a b ≡ eqb b a
    go (yes e) = eq-eqb a b e ∙ sym (eq-eqb b a (sym e))
    go (no h) = ne_eqb a b h ∙ sym (ne_eqb b a (λ e. h (sym e)))

both_zero : (a b : ℕ) → eqb a b && (false || eqb a 0) ≡ not (ltb 0 (b + a))
both_zero zero zero = refl
both_zero zero (suc b) = rw (ne_eqb 0 (suc b) (λ e. omega arith), lt-ltb 0 (suc b + 0) (omega arith))
both_zero (suc a) b = rw (ne_eqb (suc a) 0 (λ e. omega arith), lt-ltb 0 (b + suc a) (omega arith)) (go (eqb (suc a) b))
  where
    go : (t : Bool) → t && false ≡ false
    go true = refl
    go false = refl

zero_or_below : (a b : ℕ) → ltb 0 (a + b) || (eqb a b && (false || eqb a 0)) ≡ true
zero_or_below zero zero = refl
zero_or_below zero (suc b) = rw (lt-ltb 0 (0 + suc b) (omega arith))
zero_or_below (suc a) b = rw (lt-ltb 0 (suc a + b) (omega arith))

pub le_not_above : (x y : Float) → Real x → Real y → le x y ≡ not (lt y x)
unfolding le lt eq is_nan
le_not_above nan y p q = absurd p
le_not_above (inf s) nan p q = absurd q
le_not_above (inf true) (inf true) p q = refl
le_not_above (inf true) (inf false) p q = refl
le_not_above (inf false) (inf true) p q = refl
le_not_above (inf false) (inf false) p q = refl
le_not_above (inf true) (fin t n d) p q = refl
le_not_above (inf false) (fin t n d) p q = refl
le_not_above (fin s m e) nan p q = absurd q
le_not_above (fin s m e) (inf true) p q = refl
le_not_above (fin s m e) (inf false) p q = refl
le_not_above (fin false m e) (fin false n d) p q = equal_or_below (m * up e * down d) (n * up d * down e)
le_not_above (fin false m e) (fin true n d) p q = both_zero (m * up e * down d) (n * up d * down e)
le_not_above (fin true m e) (fin false n d) p q = zero_or_below (m * up e * down d) (n * up d * down e)
le_not_above (fin true m e) (fin true n d) p q = let a = m * up e * down d in let b = n * up d * down e in rw (eqb_swap a b) (equal_or_below b a)

-- two numbers of which neither is below the other are equal as numbers
pub lt_total : (x y : Float) → Real x → Real y → lt x y ≡ false → lt y x ≡ false → eq x y ≡ true
unfolding le
lt_total x y p q h k = rw h at (le_not_above x y p q ∙ ap not k)

-- a number below another, or above it, is not equal to it
apart : (a b : ℕ) → ltb a b ≡ true → eqb a b ≡ false
apart a b h = ne_eqb a b (λ e. omega (arith, ltb-true a b h))

pub below_not_equal : (x y : Float) → lt x y ≡ true → eq x y ≡ false
unfolding lt eq
below_not_equal nan y h = refl
below_not_equal (inf s) nan h = refl
below_not_equal (inf true) (inf true) h = sym h
below_not_equal (inf true) (inf false) h = refl
below_not_equal (inf false) (inf t) h = absurd (false≢true h)
below_not_equal (inf s) (fin t n d) h = refl
below_not_equal (fin s m e) nan h = refl
below_not_equal (fin s m e) (inf t) h = refl
below_not_equal (fin false m e) (fin false n d) h = rw (apart (m * up e * down d) (n * up d * down e) h)
below_not_equal (fin false m e) (fin true n d) h = absurd (false≢true h)
below_not_equal (fin true m e) (fin false n d) h =
    let a = m * up e * down d in
    let b = n * up d * down e in
    both_zero a b ∙ ap not (lt-ltb 0 (b + a) (omega (arith, ltb-true 0 (a + b) h)))
below_not_equal (fin true m e) (fin true n d) h =
    let a = m * up e * down d in
    let b = n * up d * down e in
    rw (eqb_swap a b, apart b a h)

second_false : (a b : Bool) → a || b ≡ false → b ≡ false
second_false true b e = absurd (false≢true (sym e))
second_false false b e = e

pub above_not_equal : (x y : Float) → lt y x ≡ true → eq x y ≡ false
unfolding le eq is_nan
above_not_equal nan y h = refl
above_not_equal (inf s) y h = second_false (lt (inf s) y) (eq (inf s) y) (le_not_above (inf s) y tt (below_real y (inf s) h) ∙ ap not h)
above_not_equal (fin s m e) y h = second_false (lt (fin s m e) y) (eq (fin s m e) y) (le_not_above (fin s m e) y tt (below_real y (fin s m e) h) ∙ ap not h)

-- nor equal to what is equal to that one as a number
equal_real : (y w : Float) → eq y w ≡ true → Real y
unfolding eq is_nan
equal_real nan w e = absurd (false≢true e)
equal_real (inf s) w e = tt
equal_real (fin s m k) w e = tt

pub below_equal : (x y w : Float) → eq y w ≡ true → lt x w ≡ true → eq x y ≡ false
below_equal x y w e h = below_not_equal x y (go (lt x y) (lt y w) refl refl)
  where
    go : (a b : Bool) → lt x y ≡ a → lt y w ≡ b → a ≡ true
    go true b p q = refl
    go false true p q = absurd (false≢true (sym (below_not_equal y w q) ∙ e))
    go false false p q = absurd (false≢true (sym (lt_not_below x y w (equal_real y w e) p q) ∙ h))

pub above_equal : (x y w : Float) → eq y w ≡ true → lt w x ≡ true → eq x y ≡ false
above_equal x y w e h = above_not_equal x y (go (lt y x) (lt w y) refl refl)
  where
    go : (a b : Bool) → lt y x ≡ a → lt w y ≡ b → a ≡ true
    go true b p q = refl
    go false true p q = absurd (false≢true (sym (above_not_equal y w q) ∙ e))
    go false false p q = absurd (false≢true (sym (lt_not_below w y x (equal_real y w e) q p) ∙ h))
