-- `root_of` meets its rule at either format: of a number above zero that the format holds it is the root that R1.5 works out.
-- The idea: such a number is q * 2 ^ k units of the format's smallest value, and in units all is natural numbers (`Units`).
use Rattle.std.proofs.Common.{◌≡◌, ℕ, zero, suc, ◌+◌, ◌-◌, ◌*◌, ◌/◌, ◌%◌, ◌^◌, ◌<◌, ◌≤◌, Bool, true, false, ◌&&◌, T, eqb, ltb, leb, ℤ, pos, negsuc, ◌*ℤ◌, sym, refl, ap, ◌∙◌, subst, true≢false, lt_of_lt_of_le, le_of_suc-le-suc, lt_irrefl, zero-lt-suc, mul_assoc, mul-pos, one-mul, lt_of_not-le, zero-mul, mul-one, mul_right_comm, mul-div_cancel, arith, lit<, lit≤, ltb→lt, leb→le, pow_pos, pow-add, le-leb}
use native.Mathlib.Decide.{dec_le}
use borrow.Author.Tests.{lt-leb}
use lib.Count.{count_trailing_zeros}
use lib.IntN.{sub_ℕ}
use lib.Pow.{pow-lt}
use lib.Ieee.{Float, nan, inf, fin, Format, binary32, binary64, prec, emax, low, up, down, odd, minus, fits}
use lib.Ieee.Digits.{size-le, back}
use lib.Ieee.Fits.{and_l, and_r, down_pos}
use lib.Ieee.Exact.{HasValue}
use lib.Ieee.Positive.{num, den, positive, value→cross, value_pos, first_pos}
use Rattle.root.specs.Root.{near_root, number, root_of}
use Rattle.root.specs.Rule.{Near, not_negative, RoundedRoot}
use Rattle.root.proofs.Whole.{sub_pos, sub_neg, sub_eq, twice_sub}
use Rattle.root.proofs.Units.{pairs, kept, squares, four_pow, exponent_is, scaled_is, Left, left, left_ge, left_room, left_back}
use Rattle.root.proofs.Near.{near_unique, near_is, near_ge, near_lt}

-- ---- r * 2 ^ h with a signed h is r * 2 ^ i units of 2 ^ -l

minus_is : (a b : ℕ) → minus a b ≡ sub_ℕ a b
minus_is a b = go (dec_le b a)
  where
    go : Dec (b ≤ a) → minus a b ≡ sub_ℕ a b
    go (yes h) = rw (le-leb b a h, sub_pos a b h)
    go (no h) = let k : a < b = lt_of_not-le h in rw (lt-leb b a k, sub_neg a b k)

odd_eq : (p : ℕ) (s : Bool) (r i l j m : ℕ) → i + m ≡ j + l → odd p s r i l ≡ odd p s r j m
unfolding odd
odd_eq p s zero i l j m e = refl
odd_eq p s (suc r) i l j m e =
    let t = count_trailing_zeros p (suc r) in
    ap (fin s (suc r / 2 ^ t)) (minus_is (i + t) l ∙ sub_eq (i + t) l (j + t) m (omega arith) ∙ sym (minus_is (j + t) m))

pub number_is : (p r i l : ℕ) → number p r (sub_ℕ i l) ≡ odd p false r i l
unfolding number
number_is p r i l = go (dec_le l i)
  where
    go : Dec (l ≤ i) → number p r (sub_ℕ i l) ≡ odd p false r i l
    go (yes h) = rw (sub_pos i l h) (odd_eq p false r (i - l) 0 i l (omega arith))
    go (no h) = let k : i < l = lt_of_not-le h in rw (sub_neg i l k) (odd_eq p false r 0 (suc (l - suc i)) i l (omega arith))

-- ---- every number that the format holds is a number of units

pow_le_back : (a l : ℕ) → 2 ^ a ≤ 2 ^ l → a ≤ l
pow_le_back a l h = le_of_suc-le-suc (lt_of_not-le (λ (g : suc l ≤ a). lt_irrefl (2 ^ l) (lt_of_lt_of_le (pow-lt g) h)))

-- an exponent that is not below -l is j - l
pub place : (l : ℕ) (e : ℤ) → down e ≤ 2 ^ l → (j : ℕ) × (e ≡ sub_ℕ j l)
place l (pos a) h = (a + l, sym (sub_pos (a + l) l (omega arith) ∙ ap pos (omega arith)))
place l (negsuc a) h =
    let le : suc a ≤ l = pow_le_back (suc a) l h in
    (l - suc a, sym (sub_neg (l - suc a) l (omega arith) ∙ ap negsuc (omega arith)))

-- 2 ^ (j - l) is 2 ^ j units
pub in_place : (j l : ℕ) → up (sub_ℕ j l) * 2 ^ l ≡ 2 ^ j * down (sub_ℕ j l)
in_place j l = go (dec_le l j)
  where
    go : Dec (l ≤ j) → up (sub_ℕ j l) * 2 ^ l ≡ 2 ^ j * down (sub_ℕ j l)
    go (yes h) = rw (sub_pos j l h) (sym (pow-add 2 (j - l) l) ∙ ap (λ (y : ℕ). 2 ^ y) (back j l h) ∙ sym (mul-one (2 ^ j)))
    go (no h) =
        let k : j < l = lt_of_not-le h in
        let e : j + suc (l - suc j) ≡ l = omega arith in
        rw (sub_neg j l k) (one-mul (2 ^ l) ∙ ap (λ (y : ℕ). 2 ^ y) (sym e) ∙ pow-add 2 j (suc (l - suc j)))

pub held : (f : Format) (s : Bool) (m : ℕ) (e : ℤ) → T (fits f (fin s (suc m) e)) → (suc m < 2 ^ prec f) × (down e ≤ 2 ^ low f)
unfolding fits
held f s m e h =
    let A = eqb (suc m % 2) 1 in
    let B = ltb (suc m) (2 ^ prec f) in
    let C = leb (down e) (2 ^ low f) in
    let D = ltb (suc m * up e) (2 ^ suc (emax f) * down e) in
    let t = and_l (A && B && C) D h in
    (ltb→lt (suc m) (2 ^ prec f) (and_r A B (and_l (A && B) C t)), leb→le (down e) (2 ^ low f) (and_r (A && B) C t))

-- ---- the formats

pub prec_pos : (f : Format) → 0 < prec f
prec_pos binary32 = lit< tt
prec_pos binary64 = lit< tt

pub wide : (f : Format) → 2 * prec f ≤ low f + 2
wide binary32 = lit≤ tt
wide binary64 = lit≤ tt

-- ---- `root_of` sees only the value, in units of 4 ^ -low

abbrev pub root_units : ℕ → ℕ → ℕ → Float
root_units p l n = odd p false (near_root p (kept p n)) (pairs p n) l

placed_root : (f : Format) (m j : ℕ) → suc m < 2 ^ prec f → root_of f (fin false (suc m) (sub_ℕ j (low f))) ≡ root_units (prec f) (low f) (suc m * 2 ^ (j + low f))
unfolding root_of
placed_root f m j h =
    let s = size-le (suc m) (prec f) h in
    rw (exponent_is (prec f) (suc m) j (low f) (zero-lt-suc m) s (prec_pos f) (wide f), scaled_is (prec f) (suc m) j (low f) (zero-lt-suc m) s (prec_pos f) (wide f))
    (number_is (prec f) (near_root (prec f) (kept (prec f) (suc m * 2 ^ (j + low f)))) (pairs (prec f) (suc m * 2 ^ (j + low f))) (low f))

cancel : (a b d : ℕ) → 0 < d → a * d ≡ b * d → a ≡ b
cancel a b d p h = sym (mul-div_cancel a p) ∙ ap (λ (y : ℕ). y / d) h ∙ mul-div_cancel b p

pub root_of_val : (f : Format) (x : Float) (a : ℕ) → T (fits f x) → HasValue x false a (2 ^ low f) → 0 < a → root_of f x ≡ root_units (prec f) (low f) (a * 2 ^ low f)
root_of_val f nan a w h p = absurd h
root_of_val f (inf s) a w h p = absurd h
root_of_val f (fin s zero e) a w h p = absurd (lt_irrefl 0 (subst (λ (y : ℕ). 0 < y) (sym h.1 ∙ ap (λ (y : ℕ). y * 2 ^ low f) (zero-mul (up e)) ∙ zero-mul (2 ^ low f)) (mul-pos p (down_pos e))))
root_of_val f (fin true (suc m) e) a w h p = absurd (true≢false h.0)
root_of_val f (fin false (suc m) e) a w h p =
    let b = held f false m e w in
    let j = place (low f) e b.1 in
    let v : suc m * 2 ^ j.0 ≡ a =
    cancel (suc m * 2 ^ j.0) a (down e) (down_pos e)
    (mul_assoc (suc m) (2 ^ j.0) (down e)
    ∙ ap (λ (y : ℕ). suc m * y) (ap (λ (d : ℤ). 2 ^ j.0 * down d) j.1 ∙ sym (in_place j.0 (low f)) ∙ ap (λ (d : ℤ). up d * 2 ^ low f) (sym j.1))
    ∙ sym (mul_assoc (suc m) (up e) (2 ^ low f))
    ∙ h.1) in
    ap (λ (d : ℤ). root_of f (fin false (suc m) d)) j.1
    ∙ placed_root f m j.0 b.0
    ∙ ap (root_units (prec f) (low f))
    (ap (λ (y : ℕ). suc m * y) (pow-add 2 j.0 (low f)) ∙ sym (mul_assoc (suc m) (2 ^ j.0) (2 ^ low f)) ∙ ap (λ (y : ℕ). y * 2 ^ low f) v)

-- ---- q * 2 ^ k units of the smallest value, with q of no more digits than the format keeps
module _ (f : Format) (q k : ℕ) (Q : 0 < q) (B : q < 2 ^ prec f) where
  pub left_of_lem : Left (prec f) q (k + low f)
  left_of_lem = left (prec f) q (k + low f) Q (size-le q (prec f) B) (prec_pos f) (reach (prec f) (low f) k (wide f))
    where
      reach : (p l k : ℕ) → 2 * p ≤ l + 2 → 2 * p ≤ k + l + 2
      reach p l k h = omega arith

  abbrev pub whole_of : ℕ
  whole_of = kept (prec f) (q * 2 ^ (k + low f))

  pub whole_ge : 2 ^ (prec f - 1) * 2 ^ (prec f - 1) ≤ whole_of
  whole_ge = left_ge (prec f) q (k + low f) Q left_of_lem

  whole_room : whole_of + 2 ^ prec f ≤ 2 ^ prec f * 2 ^ prec f
  whole_room = left_room (prec f) q (k + low f) (prec_pos f) (size-le q (prec f) B) left_of_lem

  whole_pos : 0 < whole_of
  whole_pos = lt_of_lt_of_le (mul-pos (pow_pos (prec f - 1)) (pow_pos (prec f - 1))) whole_ge

  whole_lt : whole_of < 4 ^ prec f
  whole_lt = subst (λ (y : ℕ). whole_of < y) (sym (squares (prec f))) (less whole_of (2 ^ prec f) (2 ^ prec f * 2 ^ prec f) (pow_pos (prec f)) whole_room)
    where
      less : (x b c : ℕ) → 0 < b → x + b ≤ c → x < c
      less x b c p h = omega arith

  pub root_near : Near (near_root (prec f) whole_of) whole_of
  root_near = near_is (prec f) whole_of whole_pos whole_lt

  pub root_ge : 2 ^ (prec f - 1) ≤ near_root (prec f) whole_of
  root_ge = near_ge (2 ^ (prec f - 1)) (near_root (prec f) whole_of) whole_of whole_ge root_near

  pub root_lt : near_root (prec f) whole_of < 2 ^ prec f
  root_lt = near_lt (2 ^ prec f) (near_root (prec f) whole_of) whole_of (pow_pos (prec f)) whole_room root_near

  joined : q * 2 ^ k * 2 ^ low f ≡ q * 2 ^ (k + low f)
  joined = mul_assoc q (2 ^ k) (2 ^ low f) ∙ ap (λ (y : ℕ). q * y) (sym (pow-add 2 k (low f)))

  pub root_is : (x : Float) → T (fits f x) → HasValue x false (q * 2 ^ k) (2 ^ low f) → root_of f x ≡ root_units (prec f) (low f) (q * 2 ^ (k + low f))
  root_is x w h = root_of_val f x (q * 2 ^ k) w h (mul-pos Q (pow_pos k)) ∙ ap (root_units (prec f) (low f)) joined

-- ---- the rule, for q * 2 ^ k units

-- x is b units of 4 ^ (i - l): from natural weights to signed exponents
in_fours : (a b d i l : ℕ) → a * 4 ^ l ≡ b * 4 ^ i * d → a * down (pos 2 *ℤ sub_ℕ i l) ≡ b * up (pos 2 *ℤ sub_ℕ i l) * d
in_fours a b d i l h = rw twice_sub (cancel (a * D) (b * U * d) (2 ^ (2 * l)) (pow_pos (2 * l)) same)
  where
    U : ℕ
    U = up (sub_ℕ (2 * i) (2 * l))

    D : ℕ
    D = down (sub_ℕ (2 * i) (2 * l))

    four : (j : ℕ) → 2 ^ (2 * j) ≡ 4 ^ j
    four j = ap (λ (y : ℕ). 2 ^ y) (omega arith) ∙ sym (four_pow j)

    same : a * D * 2 ^ (2 * l) ≡ b * U * d * 2 ^ (2 * l)
    same =
        mul_right_comm a D (2 ^ (2 * l))
        ∙ ap (λ (y : ℕ). a * y * D) (four l)
        ∙ ap (λ (y : ℕ). y * D) h
        ∙ mul_right_comm (b * 4 ^ i) d D
        ∙ ap (λ (y : ℕ). y * d) (mul_assoc b (4 ^ i) D ∙ ap (λ (y : ℕ). b * (y * D)) (sym (four i)) ∙ ap (λ (y : ℕ). b * y) (sym (in_place (2 * i) (2 * l))) ∙ sym (mul_assoc b U (2 ^ (2 * l))))
        ∙ mul_right_comm (b * U) (2 ^ (2 * l)) d

in_units : (n l a d : ℕ) → n * 2 ^ l ≡ a * d → n * 4 ^ l ≡ a * 2 ^ l * d
in_units n l a d g = ap (λ (y : ℕ). n * y) (squares l) ∙ sym (mul_assoc n (2 ^ l) (2 ^ l)) ∙ ap (λ (y : ℕ). y * 2 ^ l) g ∙ mul_right_comm a d (2 ^ l)

twice_less : (p : ℕ) → 2 ^ (2 * p - 2) ≡ 2 ^ (p - 1) * 2 ^ (p - 1)
twice_less p = ap (λ (y : ℕ). 2 ^ y) (omega arith) ∙ pow-add 2 (p - 1) (p - 1)

module _ (f : Format) (q k : ℕ) (Q : 0 < q) (B : q < 2 ^ prec f) where
  -- x in units of 4 ^ -low
  pub weighed : (x : Float) → HasValue x false (q * 2 ^ k) (2 ^ low f) → num x * 4 ^ low f ≡ whole_of f q k Q B * 4 ^ pairs (prec f) (q * 2 ^ (k + low f)) * den x
  weighed x h =
      in_units (num x) (low f) (q * 2 ^ k) (den x) (value→cross x (q * 2 ^ k) (2 ^ low f) h)
      ∙ ap (λ (y : ℕ). y * den x) (joined f q k Q B ∙ sym (left_back (prec f) q (k + low f) (left_of_lem f q k Q B)))

  pub rounded : (x : Float) → T (fits f x) → HasValue x false (q * 2 ^ k) (2 ^ low f) → RoundedRoot f x (root_of f x)
  rounded x w h =
      let p = prec f in
      let n = q * 2 ^ (k + low f) in
      let X = whole_of f q k Q B in
      let i = pairs p n in
      record {
        whole = X;
        exponent = sub_ℕ i (low f);
        scale = in_fours (num x) X (den x) i (low f) (weighed x h);
        at_least = rw (twice_less p) (whole_ge f q k Q B);
        below = subst (λ (y : ℕ). X < y) (four_pow p ∙ ap (λ (y : ℕ). 2 ^ y) (omega arith)) (whole_lt f q k Q B);
        root = near_root p X;
        root_at_least = root_ge f q k Q B;
        root_below = root_lt f q k Q B;
        nearest = root_near f q k Q B;
        only = λ r m. near_unique r (near_root p X) X m (root_near f q k Q B);
        is = root_is f q k Q B x w h ∙ sym (number_is p (near_root p X) i (low f));
      }

-- every number that the format holds and that is not negative is q * 2 ^ k units of its smallest value, with at most as many digits as the format keeps
pub record InUnits (f : Format) (x : Float) : Type 0 where
  pub q : ℕ
  pub k : ℕ
  pub few : q < 2 ^ prec f
  pub value : HasValue x false (q * 2 ^ k) (2 ^ low f)

pub in_its_units : (f : Format) (x : Float) → T (fits f x) → T (not_negative x) → InUnits f x
in_its_units f nan h p = absurd p
in_its_units f (inf s) h p = absurd p
in_its_units f (fin true m e) h p = absurd p
in_its_units f (fin false zero e) h p =
    record {
      q = 0;
      k = 0;
      few = pow_pos (prec f);
      value = (refl, ap (λ (y : ℕ). y * 2 ^ low f) (zero-mul (up e)) ∙ zero-mul (2 ^ low f) ∙ sym (zero-mul (down e)));
    }
in_its_units f (fin false (suc m) e) h p =
    let b = held f false m e h in
    let j = place (low f) e b.1 in
    record {
      q = suc m;
      k = j.0;
      few = b.0;
      value = (
        refl,
        mul_assoc (suc m) (up e) (2 ^ low f)
            ∙ ap (λ (y : ℕ). suc m * y) (ap (λ (d : ℤ). up d * 2 ^ low f) j.1 ∙ in_place j.0 (low f) ∙ ap (λ (d : ℤ). 2 ^ j.0 * down d) (sym j.1))
            ∙ sym (mul_assoc (suc m) (2 ^ j.0) (down e)),
      );
    }

pub positive_not_negative : (x : Float) → T (positive x) → T (not_negative x)
positive_not_negative nan p = absurd p
positive_not_negative (inf s) p = absurd p
positive_not_negative (fin true m e) p = absurd p
positive_not_negative (fin false m e) p = tt

-- a number above zero has some units
pub some_units : (f : Format) (x : Float) (u : InUnits f x) → T (positive x) → 0 < u.q
some_units f x u p = first_pos u.q (2 ^ u.k) (value_pos x (u.q * 2 ^ u.k) (2 ^ low f) p (pow_pos (low f)) u.value)

-- THE RULE
pub root_rule : (f : Format) (x : Float) → T (fits f x) → T (positive x) → RoundedRoot f x (root_of f x)
root_rule f x h p = let u = in_its_units f x h (positive_not_negative x p) in rounded f u.q u.k (some_units f x u p) u.few x h u.value
