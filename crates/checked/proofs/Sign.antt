-- The sign of a difference is the order of its numbers: of two numbers of the format f, x - y is below zero exactly where x < y. No rounding makes it zero there, nor
-- turns its sign elsewhere.
use mathlib.Core.Path.{◌≡◌, refl, sym, ap, ◌∙◌, subst}
use mathlib.Core.Bool.{Bool, true, false, ◌&&◌, not, cond}
use mathlib.Core.Logic.{◌⊎◌, inl, inr, ⊎_elim}
use Prim.Native.Nat.{ℕ, zero, suc, ◌+◌, ◌-◌, ◌*◌, ◌/◌, ◌%◌, ◌^◌, ◌≤◌, ◌<◌, compare}
use native.Mathlib.Nat.{le_trans, le_of_lt, add-mul, mul-sub, mul_comm, mul_assoc, mul-pos, one-mul, mul-le-mul_left, mul-le-mul_right, le-mul_of_pos_right, mul-div-le, le-div_iff_mul-le}
use native.Mathlib.Omega.{arith}
use borrow.Author.Tests.{ltb-true, ltb-false, lt-ltb, le-ltb, leb-true, leb-false}
use lib.Dec.{T, ltb, leb, eqb, leb→le, eqb→eq}
use lib.IntN.{ℤ, pos, negsuc}
use lib.Pow.{pow-add, pow_pos}
use lib.Ieee.{Float, Format, binary32, binary64, nan, inf, fin, prec, emax, low, up, down, size, nearest, odd, units, round, sum, add, sub, neg, lt, le, below, fits}
use lib.Ieee.Digits.{size-lt, size_reaches}
use lib.Ieee.Exact.{HasValue, odd_sign}
use lib.Ieee.Fits.{round_is, two, up_pos, down_pos, and_l, and_r}
use lib.Ieee.Nearest.{nearest-ge}
use lib.Ieee.Positive.{first_pos}
use lib.Ieee.Scale.{round_same}
use Rattle.checked.specs.Finite.{finite, +0}
use Rattle.checked.proofs.Absorbing.{fine_sub_left, fine_sub_right}
use Rattle.checked.proofs.Ordered.{finite_real, le_not_above}

abbrev Down : Float → Type 0
Down x = lt x +0 ≡ true

value_down : (x : Float) (a c : ℕ) → HasValue x true a c → 0 < a → Down x
unfolding lt
value_down nan a c h A = absurd h
value_down (inf s) a c h A = absurd h
value_down (fin false m e) a c h A = absurd (subst T (sym h.0) tt)
value_down (fin true m e) a c h A =
    let p : 0 < m * up e = first_pos (m * up e) c (rw h.1 (mul-pos A (down_pos e))) in
    lt-ltb 0 (m * up e * 1 + 0 * down e) (omega arith)

units_down : (f : Format) (q k : ℕ) → 0 < q → Down (units f true q k)
unfolding units lt
units_down f q k h = go (ltb (q * 2 ^ k) (2 ^ (low f + suc (emax f))))
  where
    go : (b : Bool) → Down (cond b (odd (suc (prec f)) true q k (low f)) (inf true))
    go true = value_down (odd (suc (prec f)) true q k (low f)) (q * 2 ^ k) (2 ^ low f) (odd_sign (suc (prec f)) true q k (low f)) (mul-pos h (pow_pos k))
    go false = refl

size_pos : (w : ℕ) → 1 ≤ w → 0 < size w
size_pos w h = go (size w) (size-lt w)
  where
    go : (s : ℕ) → w < 2 ^ s → 0 < s
    go zero l = absurd (omega arith)
    go (suc s) l = omega arith

kept : (w p : ℕ) → 1 ≤ w → 1 ≤ p → 2 ^ (size w - p) ≤ w
kept w p h k = size_reaches w (size w - p) (omega (arith, size_pos w h))

round_down : (f : Format) (num den : ℕ) → 0 < den → den ≤ num * 2 ^ low f → Down (round f true num den)
round_down f num den h l =
    let n = num * 2 ^ low f in
    let w : 1 ≤ n / den = (le-div_iff_mul-le h).1 (rw one-mul l) in
    let k = size (n / den) - prec f in
    let u : 0 < den * 2 ^ k = mul-pos h (pow_pos k) in
    let v : den * 2 ^ k ≤ n = le_trans (mul-le-mul_left den (kept (n / den) (prec f) w (omega (arith, two f)))) (mul-div-le n den) in
    let q : 1 ≤ n / (den * 2 ^ k) = (le-div_iff_mul-le u).1 (rw one-mul v) in
    let o = compare (n % (den * 2 ^ k) * 2) (den * 2 ^ k) in
    rw round_is (units_down f (nearest (n / (den * 2 ^ k)) o) k (le_trans q (nearest-ge (n / (den * 2 ^ k)) o)))

sub_mul : (n m k : ℕ) → (n - m) * k ≡ n * k - m * k
sub_mul n m k = mul_comm (n - m) k ∙ mul-sub k n m ∙ rw (mul_comm k n, mul_comm k m)

le_mul_of_pos_left : (n : ℕ) {m : ℕ} → zero < m → n ≤ m * n
le_mul_of_pos_left n {m} h = rw (mul_comm m n) (le-mul_of_pos_right n h)

-- ---- two fractions have a common measure, no smaller than the format's smallest value

record Common (A B C X : ℕ) : Type 0 where
  g : ℕ
  h : ℕ
  r : ℕ
  s : ℕ
  ea : A ≡ r * g
  eb : B ≡ s * g
  ec : C ≡ g * h
  hx : h ≤ X

split : (e d : ℤ) → ((p : ℕ) × (down d ≡ down e * p)) ⊎ ((p : ℕ) × (down e ≡ down d * p))
split (pos i) d = inl (down d, sym (one-mul (down d)))
split (negsuc i) (pos j) = inr (2 ^ suc i, sym (one-mul (2 ^ suc i)))
split (negsuc i) (negsuc j) =
    go (leb i j) refl
  where
    power : (i j : ℕ) → i ≤ j → 2 ^ suc j ≡ 2 ^ suc i * 2 ^ (j - i)
    power i j h = let e : suc j ≡ suc i + (j - i) = omega arith in ap (λ (k : ℕ). 2 ^ k) e ∙ pow-add 2 (suc i) (j - i)

    go : (b : Bool) → leb i j ≡ b → ((p : ℕ) × (2 ^ suc j ≡ 2 ^ suc i * p)) ⊎ ((p : ℕ) × (2 ^ suc i ≡ 2 ^ suc j * p))
    go true e = inl (2 ^ (j - i), power i j (leb-true i j e))
    go false e = inr (2 ^ (i - j), power j i (le_of_lt (leb-false i j e)))

common : (a b : ℕ) (e d : ℤ) (X : ℕ) → down e ≤ X → down d ≤ X → Common (a * down d) (b * down e) (down e * down d) X
common a b e d X p q = ⊎_elim left right (split e d)
  where
    left : (p : ℕ) × (down d ≡ down e * p) → Common (a * down d) (b * down e) (down e * down d) X
    left w = record { g = down e; h = down d; r = a * w.0; s = b; ea = ap (λ (x : ℕ). a * x) (w.1 ∙ mul_comm (down e) w.0) ∙ sym (mul_assoc a w.0 (down e)); eb = refl; ec = refl; hx = q }

    right : (p : ℕ) × (down e ≡ down d * p) → Common (a * down d) (b * down e) (down e * down d) X
    right w = record { g = down d; h = down e; r = a; s = b * w.0; ea = refl; eb = ap (λ (x : ℕ). b * x) (w.1 ∙ mul_comm (down d) w.0) ∙ sym (mul_assoc b w.0 (down d)); ec = mul_comm (down e) (down d); hx = p }

measured : (D g h r C X : ℕ) → D ≡ r * g → 0 < D → C ≡ g * h → h ≤ X → C ≤ D * X
measured D g h r C X e p c l =
    let z : 0 < r = first_pos r g (rw e at p) in
    rw (c, e) (le_trans (mul-le-mul_left g l) (mul-le-mul_right X (le_mul_of_pos_left g z)))

module _ {A B C X : ℕ} (w : Common A B C X) where
  of_sum : 0 < A + B → C ≤ (A + B) * X
  of_sum p = measured (A + B) w.g w.h (w.r + w.s) C X (rw (w.ea, w.eb, add-mul)) p w.ec w.hx

  of_less : 0 < A - B → C ≤ (A - B) * X
  of_less p = measured (A - B) w.g w.h (w.r - w.s) C X (rw (w.ea, w.eb, sub_mul)) p w.ec w.hx

  of_more : 0 < B - A → C ≤ (B - A) * X
  of_more p = measured (B - A) w.g w.h (w.s - w.r) C X (rw (w.ea, w.eb, sub_mul)) p w.ec w.hx

fits_down : (f : Format) (s : Bool) (m : ℕ) (e : ℤ) → T (fits f (fin s m e)) → down e ≤ 2 ^ low f
unfolding fits
fits_down f s zero e h =
    let x : up e * down e ≡ 1 = eqb→eq (up e * down e) 1 h in
    le_trans (le_mul_of_pos_left (down e) (up_pos e)) (rw x (pow_pos (low f)))
fits_down f s (suc m) e h =
    let a : Bool = eqb (suc m % 2) 1 && ltb (suc m) (2 ^ prec f) in
    let b : Bool = leb (down e) (2 ^ low f) in
    leb→le (down e) (2 ^ low f) (and_r a b (and_l (a && b) (ltb (suc m * up e) (2 ^ suc (emax f) * down e)) h))

-- ---- what is rounded with a plus, or from nothing, is not below zero

abbrev NotDown : Float → Type 0
NotDown x = lt x +0 ≡ false

value_not_down : (x : Float) (a c : ℕ) → HasValue x false a c → NotDown x
unfolding lt
value_not_down nan a c h = absurd h
value_not_down (inf s) a c h = absurd h
value_not_down (fin true m e) a c h = absurd (subst T h.0 tt)
value_not_down (fin false m e) a c h = le-ltb (m * up e * 1) (0 * down e) (omega arith)

units_not_down : (f : Format) (q k : ℕ) → NotDown (units f false q k)
unfolding units lt
units_not_down f q k = go (ltb (q * 2 ^ k) (2 ^ (low f + suc (emax f))))
  where
    go : (b : Bool) → NotDown (cond b (odd (suc (prec f)) false q k (low f)) (inf false))
    go true = value_not_down (odd (suc (prec f)) false q k (low f)) (q * 2 ^ k) (2 ^ low f) (odd_sign (suc (prec f)) false q k (low f))
    go false = refl

round_not_down : (f : Format) (num den : ℕ) → NotDown (round f false num den)
unfolding round
round_not_down f num den = units_not_down f _ _

-- nothing, rounded with a minus, is -0, which is not below zero
minus_zero : (f : Format) → NotDown (round f true 0 1)
unfolding lt round size units odd
minus_zero binary32 = refl
minus_zero binary64 = refl

nothing_not_down : (f : Format) (num den : ℕ) → 0 < den → num ≡ 0 → NotDown (round f true num den)
nothing_not_down f num den h z = rw (z, round_same f true 0 den 0 1 h (pow_pos 0) (omega arith)) (minus_zero f)

-- ---- the laws

pub difference_below_zero : (f : Format) (x y : Float) → T (fits f x) → T (fits f y) → finite x ≡ true → finite y ≡ true → lt x y ≡ true → lt (sub f x y) +0 ≡ true
unfolding finite sub add neg sum lt
difference_below_zero f nan y p q a b h = absurd (subst T (sym a) tt)
difference_below_zero f (inf s) y p q a b h = absurd (subst T (sym a) tt)
difference_below_zero f (fin s m e) nan p q a b h = absurd (subst T (sym b) tt)
difference_below_zero f (fin s m e) (inf t) p q a b h = absurd (subst T (sym b) tt)
difference_below_zero f (fin s m e) (fin t n d) p q a b h = go s t h
  where
    A : ℕ
    A = m * up e * down d

    B : ℕ
    B = n * up d * down e

    C : ℕ
    C = down e * down d

    w : Common A B C (2 ^ low f)
    w = common (m * up e) (n * up d) e d (2 ^ low f) (fits_down f s m e p) (fits_down f t n d q)

    c : 0 < C
    c = mul-pos (down_pos e) (down_pos d)

    go : (s t : Bool) → below s A t B ≡ true → Down (sum f s A (not t) B C)
    go false false h = rw h (round_down f (B - A) C c (of_more w (omega (arith, ltb-true A B h))))
    go false true h = absurd (subst T (sym h) tt)
    go true false h = round_down f (A + B) C c (of_sum w (ltb-true 0 (A + B) h))
    go true true h = rw (le-ltb A B (le_of_lt (ltb-true B A h)), h) (round_down f (A - B) C c (of_less w (omega (arith, ltb-true B A h))))

-- where x is not below y, it is not below zero; here neither has to be of the format
pub difference_not_below : (f : Format) (x y : Float) → finite x ≡ true → finite y ≡ true → lt x y ≡ false → lt (sub f x y) +0 ≡ false
unfolding finite sub add neg sum lt
difference_not_below f nan y a b h = absurd (subst T (sym a) tt)
difference_not_below f (inf s) y a b h = absurd (subst T (sym a) tt)
difference_not_below f (fin s m e) nan a b h = absurd (subst T (sym b) tt)
difference_not_below f (fin s m e) (inf t) a b h = absurd (subst T (sym b) tt)
difference_not_below f (fin s m e) (fin t n d) a b h = go s t h
  where
    A : ℕ
    A = m * up e * down d

    B : ℕ
    B = n * up d * down e

    C : ℕ
    C = down e * down d

    either : (b : Bool) → NotDown (cond b (round f false (B - A) C) (round f false (A - B) C))
    either true = round_not_down f (B - A) C
    either false = round_not_down f (A - B) C

    go : (s t : Bool) → below s A t B ≡ false → NotDown (sum f s A (not t) B C)
    go false false h = rw h (round_not_down f (A - B) C)
    go false true h = round_not_down f (A + B) C
    go true false h =
        let l : A + B ≤ 0 = ltb-false 0 (A + B) h in
        nothing_not_down f (A + B) C (mul-pos (down_pos e) (down_pos d)) (omega arith)
    go true true h = rw h (either (ltb A B))

pub difference_sign : (f : Format) (x y : Float) → T (fits f x) → T (fits f y) → finite x ≡ true → finite y ≡ true → lt (sub f x y) +0 ≡ lt x y
difference_sign f x y p q a b = go (lt x y) refl
  where
    go : (c : Bool) → lt x y ≡ c → lt (sub f x y) +0 ≡ c
    go true h = difference_below_zero f x y p q a b h
    go false h = difference_not_below f x y a b h

-- so a finite difference is zero or above exactly where its numbers are in order
pub difference_not_negative : (f : Format) (x y : Float) → T (fits f x) → T (fits f y) → finite (sub f x y) ≡ true → le +0 (sub f x y) ≡ le y x
unfolding finite
difference_not_negative f x y p q h =
    let a : finite x ≡ true = fine_sub_left f x y h in
    let b : finite y ≡ true = fine_sub_right f x y h in
    le_not_above +0 (sub f x y) (finite_real +0 refl) (finite_real (sub f x y) h) ∙ ap not (difference_sign f x y p q a b) ∙ sym (le_not_above y x (finite_real y b) (finite_real x a))
