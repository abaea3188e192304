-- Bit patterns, at either format: the pattern of q * 2 ^ k smallest values is read as that number, and the patterns of the numbers above zero lie between zero's and
-- the infinity's.
use Rattle.std.proofs.Common.{◌≡◌, ℕ, zero, suc, ◌+◌, ◌-◌, ◌*◌, ◌/◌, ◌%◌, ◌<◌, ◌≤◌, Bool, true, false, cond, not, T, eqb, ltb, leb, sym, refl, ap, ◌∙◌, subst, true≢false, le_trans, lt_of_lt_of_le, le_of_lt, lt_irrefl, mod-eq_of_lt, zero-lt-suc, suc-mul, mul_comm, add-sub_of_le, lt_of_not-le, arith, le→leb, eqb→eq, ltb→lt}
use native.Mathlib.Nat.{mod-le}
use native.Mathlib.Decide.{dec_le}
use lib.Dec.{not_T}
use lib.Arith.{digits_lt, digits_div, digits_mod, lt→nleb}
use lib.Ieee.{Float, nan, inf, fin, Format, binary32, binary64, prec, low, odd, hid, ones, top, fits, of_fields, of_bits, to_bits, is_nan, nan_bits}
use lib.Ieee.Positive.{positive}
use lib.Ieee.Bits.{is_true, is_false, cond_no, nan_bits_above, of_bits-to_bits}

of_bits_is : (f : Format) (b : ℕ) → of_bits f b ≡ of_fields f (leb (top f) b) (b % top f / hid f) (b % hid f)
unfolding of_bits
of_bits_is f b = refl

-- the three fields of a pattern below the sign's weight
read : (f : Format) (x t : ℕ) → x < suc (ones f) → t < hid f → of_bits f (x * hid f + t) ≡ of_fields f false x t
read f x t X H =
    let b = x * hid f + t in
    let l : b < top f = subst (λ (y : ℕ). b < y) (mul_comm (suc (ones f)) (hid f)) (digits_lt X H) in
    of_bits_is f b
    ∙ ap (λ (s : Bool). of_fields f s (b % top f / hid f) (b % hid f)) (is_false (leb (top f) b) (lt→nleb (top f) b l))
    ∙ ap (λ (y : ℕ). of_fields f false (y / hid f) (b % hid f)) (mod-eq_of_lt l)
    ∙ ap (λ (y : ℕ). of_fields f false y (b % hid f)) (digits_div x H)
    ∙ ap (λ (y : ℕ). of_fields f false x y) (digits_mod x H)

-- what the fields are read as
at_zero : (f : Format) (s : Bool) (t : ℕ) → of_fields f s 0 t ≡ odd (prec f) s t 0 (low f)
unfolding of_fields
at_zero f s t = refl

at_normal : (f : Format) (s : Bool) (x t : ℕ) → suc x < ones f → of_fields f s (suc x) t ≡ odd (prec f) s (hid f + t) x (low f)
unfolding of_fields
at_normal f s x t h = cond_no (eqb (suc x) (ones f)) (cond (eqb t 0) (inf s) nan) (odd (prec f) s (hid f + t) x (low f)) (not_T (eqb (suc x) (ones f)) (λ u. differ (suc x) (ones f) h (eqb→eq (suc x) (ones f) u)))
  where
    differ : (a b : ℕ) → a < b → a ≡ b → ⊥
    differ a b l e = omega arith

-- ---- q * 2 ^ k smallest values
zero_lt_ones : (f : Format) → 0 < suc (ones f)
zero_lt_ones f = zero-lt-suc (ones f)

pub subnormal : (f : Format) (q : ℕ) → q < hid f → of_bits f q ≡ odd (prec f) false q 0 (low f)
subnormal f q h = ap (of_bits f) (plain q (hid f)) ∙ read f 0 q (zero_lt_ones f) h ∙ at_zero f false q
  where
    plain : (q h : ℕ) → q ≡ 0 * h + q
    plain q h = omega arith

pub normal : (f : Format) (q k : ℕ) → hid f ≤ q → q < hid f + hid f → suc k < ones f → of_bits f (k * hid f + q) ≡ odd (prec f) false q k (low f)
normal f q k lo hi K =
    ap (of_bits f) (carry (k * hid f) (hid f) q (suc k * hid f) (suc-mul k (hid f)) lo)
    ∙ read f (suc k) (q - hid f) (less (suc k) (ones f) K) (rest (hid f) q hi lo)
    ∙ at_normal f false k (q - hid f) K
    ∙ ap (λ (y : ℕ). odd (prec f) false y k (low f)) (add-sub_of_le lo)
  where
    carry : (a h q b : ℕ) → b ≡ a + h → h ≤ q → a + q ≡ b + (q - h)
    carry a h q b e l = omega arith

    less : (a b : ℕ) → a < b → a < suc b
    less a b l = omega arith

    rest : (h q : ℕ) → q < h + h → h ≤ q → q - h < h
    rest h q a b = omega arith

-- ---- a pattern below the infinity's is no NaN's
pub no_nan : (f : Format) (b : ℕ) → b < ones f * hid f → T (not (nan_bits f b))
no_nan f b h =
    subst (λ (t : Bool). T (not t)) (sym (nan_bits_above f b))
    (not_T (ltb (ones f * hid f) (b % top f)) (λ u. lt_irrefl (ones f * hid f) (lt_of_lt_of_le (ltb→lt (ones f * hid f) (b % top f) u) (le_trans (mod-le b (top f)) (le_of_lt h)))))

-- ---- the patterns of the numbers above zero lie between zero's and the infinity's

odd_below : (d q k l : ℕ) → positive (odd d true q k l) ≡ false
unfolding odd
odd_below d zero k l = refl
odd_below d (suc q) k l = refl

beyond : (b : Bool) (s : Bool) → positive (cond b (inf s) nan) ≡ false
beyond true s = refl
beyond false s = refl

signed : (f : Format) (x t : ℕ) → positive (of_fields f true x t) ≡ false
unfolding of_fields
signed f zero t = odd_below (prec f) t 0 (low f)
signed f (suc x) t = go (eqb (suc x) (ones f))
  where
    go : (b : Bool) → positive (cond b (cond (eqb t 0) (inf true) nan) (odd (prec f) true (hid f + t) x (low f))) ≡ false
    go true = beyond (eqb t 0) true
    go false = odd_below (prec f) (hid f + t) x (low f)

at_top : (f : Format) (s : Bool) (t : ℕ) → positive (of_fields f s (ones f) t) ≡ false
unfolding of_fields
at_top binary32 s t = beyond (eqb t 0) s
at_top binary64 s t = beyond (eqb t 0) s

field_ones : (f : Format) (b : ℕ) → ones f * hid f ≤ b → b < top f → b % top f / hid f ≡ ones f
field_ones binary32 b l h = omega arith
field_ones binary64 b l h = omega arith

from_infinity : (f : Format) (b : ℕ) → ones f * hid f ≤ b → positive (of_bits f b) ≡ false
from_infinity f b l = ap positive (of_bits_is f b) ∙ go (dec_le (top f) b)
  where
    go : Dec (top f ≤ b) → positive (of_fields f (leb (top f) b) (b % top f / hid f) (b % hid f)) ≡ false
    go (yes g) = ap (λ (s : Bool). positive (of_fields f s (b % top f / hid f) (b % hid f))) (is_true (leb (top f) b) (le→leb (top f) b g)) ∙ signed f (b % top f / hid f) (b % hid f)
    go (no g) = ap (λ (y : ℕ). positive (of_fields f (leb (top f) b) y (b % hid f))) (field_ones f b l (lt_of_not-le g)) ∙ at_top f (leb (top f) b) (b % hid f)

at_nought : (f : Format) → positive (of_bits f 0) ≡ false
unfolding of_bits
at_nought binary32 = refl
at_nought binary64 = refl

pub between : (f : Format) (x : Float) → T (fits f x) → T (positive x) → (0 < to_bits f x) × (to_bits f x < ones f * hid f)
between f x h p = (some (to_bits f x) (λ e. differ (ap (of_bits f) e) (at_nought f)), lt_of_not-le (λ g. differ refl (from_infinity f (to_bits f x) g)))
  where
    some : (b : ℕ) → (b ≡ 0 → ⊥) → 0 < b
    some zero n = absurd (n refl)
    some (suc b) n = zero-lt-suc b

    differ : {y : Float} → of_bits f (to_bits f x) ≡ y → positive y ≡ false → ⊥
    differ e n = true≢false (sym (is_true (positive x) p) ∙ ap positive (sym (of_bits-to_bits f x h) ∙ e) ∙ n)

pub not_nan : (x : Float) → T (positive x) → T (not (is_nan x))
unfolding is_nan
not_nan nan p = absurd p
not_nan (inf s) p = absurd p
not_nan (fin s m e) p = tt
