-- From bits to bits, at either format: the parts of the root, put together as a pattern, are the pattern of the root.
use Rattle.std.proofs.Common.{◌≡◌, ℕ, zero, suc, ◌+◌, ◌-◌, ◌*◌, ◌/◌, ◌%◌, ◌^◌, ◌<◌, ◌≤◌, Bool, true, false, T, eqb, ℤ, pos, ◌+ℤ◌, sym, refl, ap, ◌∙◌, subst, lt_of_lt_of_le, lt_of_le_of_lt, mul-le-mul_right, suc-mul, arith, lit<, lit≤, w64, to_z, of_z, eqb-true}
use lib.IntN.{sub_ℕ}
use borrow.Author.Tests.{eqb-false}
use lib.Ieee.{Float, Format, binary32, binary64, prec, low, size, hid, ones, fits, of_bits}
use lib.Ieee.Bits.{of_bits-fits}
use lib.Ieee.Digits.{size-le}
use lib.Ieee.Exact.{HasValue, odd_sign}
use Rattle.root.specs.declared.rounds.Parts.{Parts}
use Rattle.root.specs.Root.{near_root, root_exponent, scaled, number, root_of}
use Rattle.root.specs.Of.{Packable, Ranged, Scaled, unpacked, Written}
use Rattle.root.proofs.Whole.{sub_pos, sub_mag, plus_nat, read_back}
use Rattle.root.proofs.Units.{pairs, kept, pairs_is, exponent_is, scaled_is}
use Rattle.root.proofs.Rule.{number_is, prec_pos, wide, root_ge, root_lt, root_is}
use Rattle.root.proofs.Patterns.{subnormal, normal}

two_hid : (f : Format) → 2 ^ prec f ≡ hid f + hid f
two_hid binary32 = refl
two_hid binary64 = refl

-- the root's exponent is in the middle of the range
weight_lt : (f : Format) (z k : ℕ) → z ≤ prec f → suc k < ones f → suc ((z + (k + low f) + 1 - 2 * prec f) / 2) < ones f
weight_lt binary32 z k h l = omega arith
weight_lt binary64 z k h l = omega arith

-- ---- the pattern that is read: q * 2 ^ k smallest values
value_low : (f : Format) (b : ℕ) → b < hid f → HasValue (of_bits f b) false (b * 2 ^ 0) (2 ^ low f)
value_low f b h = subst (λ (x : Float). HasValue x false (b * 2 ^ 0) (2 ^ low f)) (sym (subnormal f b h)) (odd_sign (prec f) false b 0 (low f))

value_normal : (f : Format) (q k : ℕ) → hid f ≤ q → q < hid f + hid f → suc k < ones f → HasValue (of_bits f (k * hid f + q)) false (q * 2 ^ k) (2 ^ low f)
value_normal f q k lo hi K = subst (λ (x : Float). HasValue x false (q * 2 ^ k) (2 ^ low f)) (sym (normal f q k lo hi K)) (odd_sign (prec f) false q k (low f))

-- ---- the root's parts, in units

-- q * 2 ^ (k - low)
abbrev pub placed : Format → ℕ → ℕ → Parts
placed f q k = record { digits = q; exponent = sub_ℕ k (low f) }

module _ (f : Format) (q k : ℕ) (Q : 0 < q) (B : q < 2 ^ prec f) where
  abbrev pub whole : ℕ
  whole = kept (prec f) (q * 2 ^ (k + low f))

  abbrev pub weight : ℕ
  weight = pairs (prec f) (q * 2 ^ (k + low f))

  -- the root's exponent
  pub exponent_at : root_exponent (prec f) q (sub_ℕ k (low f)) ≡ sub_ℕ weight (low f)
  exponent_at = exponent_is (prec f) q k (low f) Q (size-le q (prec f) B) (prec_pos f) (wide f)

  pub whole_at : scaled (prec f) q (sub_ℕ k (low f)) ≡ whole
  whole_at = scaled_is (prec f) q k (low f) Q (size-le q (prec f) B) (prec_pos f) (wide f)

  -- the root's exponent is in the middle of the range
  pub weight_small : suc k < ones f → suc weight < ones f
  weight_small K = subst (λ (y : ℕ). suc y < ones f) (sym (pairs_is (prec f) q (k + low f) Q)) (weight_lt f (size q) k (size-le q (prec f) B) K)

  -- digits and exponent of the root, put together
  pub packs : suc k < ones f → Packable f (near_root (prec f) whole) (sub_ℕ weight (low f))
  packs K =
      let r = near_root (prec f) whole in
      record { leading = root_ge f q k Q B; few = subst (λ (y : ℕ). r < y) (two_hid f) (root_lt f q k Q B); weight = weight; is = refl; middle = weight_small K }

  pub number_at : (x : Float) → T (fits f x) → HasValue x false (q * 2 ^ k) (2 ^ low f) → number (prec f) (near_root (prec f) whole) (sub_ℕ weight (low f)) ≡ root_of f x
  number_at x w v = number_is (prec f) (near_root (prec f) whole) weight (low f) ∙ sym (root_is f q k Q B x w v)

-- the pattern of such digits and exponent
pub packed : (f : Format) (r w : ℕ) → hid f ≤ r → r < hid f + hid f → suc w < ones f → Written f (w * hid f + r) (number (prec f) r (sub_ℕ w (low f)))
packed f r w lo hi m = (
  normal f r w lo hi m ∙ sym (number_is (prec f) r w (low f)),
  lt_of_lt_of_le (below (w * hid f) (hid f) r (suc (suc w) * hid f) (suc-mul (suc w) (hid f) ∙ ap (λ (y : ℕ). y + hid f) (suc-mul w (hid f))) hi) (mul-le-mul_right (hid f) m),
)
  where
    below : (a h r c : ℕ) → c ≡ a + h + h → r < h + h → a + r < c
    below a h r c e l = omega arith

-- ---- the parts that a pattern has

pub record Unpacked (f : Format) (b : ℕ) : Type 0 where
  pub q : ℕ
  pub k : ℕ
  pub some : 0 < q
  pub few : q < 2 ^ prec f
  pub middle : suc k < ones f
  pub is : unpacked f b ≡ placed f q k
  pub value : HasValue (of_bits f b) false (q * 2 ^ k) (2 ^ low f)

under : (f : Format) (b : ℕ) → b < hid f → b < 2 ^ prec f
under binary32 b h = omega arith
under binary64 b h = omega arith

one : (f : Format) → 1 < ones f
one binary32 = omega arith
one binary64 = omega arith

no_field : (f : Format) (b : ℕ) → b / hid f ≡ 0 → b < hid f
no_field binary32 b h = omega arith
no_field binary64 b h = omega arith

abbrev Facts : (f : Format) (q k b : ℕ) → Type 0
Facts f q k b = (0 < q) × (q < 2 ^ prec f) × (suc k < ones f) × (hid f ≤ q) × (q < hid f + hid f) × (k * hid f + q ≡ b)

facts : (f : Format) (b : ℕ) → 0 < b / hid f → b < ones f * hid f → Facts f (b % hid f + hid f) (b / hid f - 1) b
facts binary32 b l h = omega arith
facts binary64 b l h = omega arith

-- a subnormal number: the pattern is the number of smallest values; and a normal one: the leading digit is put back
pub unpack : (f : Format) (b : ℕ) → 0 < b → b < ones f * hid f → Unpacked f b
unpack f b p h = go (eqb (b / hid f) 0) refl
  where
    go : (t : Bool) → eqb (b / hid f) 0 ≡ t → Unpacked f b
    go true e =
        let l = no_field f b (eqb-true (b / hid f) 0 e) in
        record { q = b; k = 0; some = p; few = under f b l; middle = one f; is = rw e; value = value_low f b l }
    go false e =
        let n = facts f b (some-field (b / hid f) (eqb-false (b / hid f) 0 e)) h in
        let q = b % hid f + hid f in
        let k = b / hid f - 1 in
        record {
          q = q;
          k = k;
          some = n.0;
          few = n.1;
          middle = n.2;
          is = rw e;
          value = subst (λ (y : ℕ). HasValue (of_bits f y) false (q * 2 ^ k) (2 ^ low f)) n.5 (value_normal f q k n.3 n.4 n.2);
        }
      where
        some-field : (x : ℕ) → (x ≡ 0 → ⊥) → 0 < x
        some-field zero h = absurd (h refl)
        some-field (suc x) h = omega arith

-- digits and exponents that are written so are small, and ones that the root takes
lowest : (f : Format) → low f ≤ 4096
lowest binary32 = lit≤ tt
lowest binary64 = lit≤ tt

highest : (f : Format) (k : ℕ) → suc k < ones f → k ≤ 4096
highest binary32 k h = omega arith
highest binary64 k h = omega arith

pub ranged : (f : Format) (q k : ℕ) → 0 < q → q < 2 ^ prec f → suc k < ones f → Ranged (placed f q k) (prec f)
ranged f q k Q B K =
    record {
      some = Q;
      few = B;
      precise = prec_pos f;
      short = short f;
      k = k;
      l = low f;
      exponent = refl;
      above = highest f k K;
      below = lowest f;
      room = wide f;
    }
  where
    short : (f : Format) → prec f ≤ 60
    short binary32 = lit≤ tt
    short binary64 = lit≤ tt

-- such an exponent is read back from its bits
pub placed_back : (f : Format) (k : ℕ) → suc k < ones f → to_z w64 (of_z w64 (sub_ℕ k (low f))) ≡ sub_ℕ k (low f)
placed_back f k h = read_back (sub_ℕ k (low f)) (lt_of_le_of_lt (sub_mag k (low f) 4096 (highest f k h) (lowest f)) (lit< tt))

-- ---- the bias taken off and put on

pub bias_back : (i l : ℕ) → sub_ℕ i l +ℤ pos l ≡ pos i
bias_back i l = plus_nat i l l ∙ sub_pos (i + l) l (omega arith) ∙ ap pos (omega arith)

-- ---- from bits to bits

-- what `root_bits` hands on to be put together for the number with the pattern b, where X is scaled in x and r is its root: an exponent that is read back from its bits,
-- and parts that are the root's
pub record Handed (f : Format) (b : ℕ) (x : Parts) (r : ℕ) : Type 0 where
  pub back : to_z w64 (of_z w64 x.exponent) ≡ x.exponent
  pub packable : Packable f r x.exponent
  pub root : number (prec f) r x.exponent ≡ root_of f (of_bits f b)

module _ (f : Format) (b : ℕ) (p : 0 < b) (l : b < ones f * hid f) where
  u : Unpacked f b
  u = unpack f b p l

  pub apart_ranged : Ranged (unpacked f b) (prec f)
  apart_ranged = subst (λ (y : Parts). Ranged y (prec f)) (sym u.is) (ranged f u.q u.k u.some u.few u.middle)

  pub handed : (x : Parts) → Scaled (prec f) (unpacked f b) x → (r : ℕ) → r ≡ near_root (prec f) (x.digits * 4 ^ prec f / 2 ^ 64) → Handed f b x r
  handed x s r e =
      record {
        back = subst (λ (z : ℤ). to_z w64 (of_z w64 z) ≡ z) (sym exponent-w) (placed_back f w (weight_small f u.q u.k u.some u.few u.middle));
        packable = subst (Packable f r) (sym exponent-w) (subst (λ (y : ℕ). Packable f y (sub_ℕ w (low f))) (sym root-w) (packs f u.q u.k u.some u.few u.middle));
        root = ap (number (prec f) r) exponent-w ∙ ap (λ (y : ℕ). number (prec f) y (sub_ℕ w (low f))) root-w ∙ number_at f u.q u.k u.some u.few (of_bits f b) (of_bits-fits f b) u.value;
      }
    where
      w : ℕ
      w = weight f u.q u.k u.some u.few

      exponent-w : x.exponent ≡ sub_ℕ w (low f)
      exponent-w = s.exponent ∙ ap (λ (y : Parts). root_exponent (prec f) y.digits y.exponent) u.is ∙ exponent_at f u.q u.k u.some u.few

      exact : (n y : ℕ) → n ≡ y * 2 ^ 64 → n / 2 ^ 64 ≡ y
      exact n y h = omega arith

      root-w : r ≡ near_root (prec f) (whole f u.q u.k u.some u.few)
      root-w = e ∙ ap (near_root (prec f)) (exact _ _ s.whole ∙ ap (λ (y : Parts). scaled (prec f) y.digits y.exponent) u.is ∙ whole_at f u.q u.k u.some u.few)
