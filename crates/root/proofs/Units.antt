-- Natural numbers in the place of signed exponents: of q * 2 ^ d, a number of units, so many pairs of binary digits are cut off that 2 * p - 1 or 2 * p are kept.
-- What is kept is the rule's X, and the pairs are the root's exponent, counted from that of the unit. For any precision p.
use Rattle.std.proofs.Common.{◌≡◌, ℕ, zero, suc, ◌+◌, ◌-◌, ◌*◌, ◌/◌, ◌%◌, ◌^◌, ◌<◌, ◌≤◌, pos, ◌-ℤ◌, ◌*ℤ◌, sym, refl, ap, ◌∙◌, subst, le_trans, le_of_eq, lt_of_lt_of_le, mul-le-mul_right, mul_assoc, suc-mul, le_antisymm, lt_of_not-le, not-le_of_lt, mul-div_cancel, arith, pow_pos, pow_mono, pow-add, shl_lt, shl_exact}
use native.Mathlib.Nat.{pow-succ', one-le-pow}
use native.Mathlib.Decide.{dec_le}
use lib.Count.{count_leading_zeros, leading_top}
use lib.Ieee.{size}
use lib.Ieee.Digits.{size-lt, size-le, size_reaches}
use lib.IntN.{sub_ℕ}
use Rattle.root.specs.Root.{half, root_exponent, scaled}
use Rattle.root.proofs.Floor.{sq_twice}
use Rattle.root.proofs.Whole.{sub_pos, plus_nat, minus_nat, half_sub, excess_sub}

-- how many pairs of binary digits n loses, to be left with 2 * p - 1 or 2 * p of them
unfoldable pub pairs : ℕ → ℕ → ℕ
unfolding size
pairs p n = (size n + 1 - 2 * p) / 2

-- n without those pairs
unfoldable pub kept : ℕ → ℕ → ℕ
unfolding pairs
kept p n = n / 4 ^ pairs p n

-- ---- how many digits a number has
pub size_exact : (a n : ℕ) → 2 ^ a ≤ n → n < 2 ^ suc a → size n ≡ suc a
size_exact a n lo hi = le_antisymm (size-le n (suc a) hi) (lt_of_not-le (λ (g : size n ≤ a). not-le_of_lt (lt_of_lt_of_le (size-lt n) (pow_mono g)) lo))

pub size_pos : (n : ℕ) → 0 < n → 0 < size n
size_pos n h = lt_of_not-le (λ (g : size n ≤ 0). not-le_of_lt (lt_of_lt_of_le (size-lt n) (pow_mono g)) h)

pub size_ge : (n : ℕ) → 0 < n → 2 ^ (size n - 1) ≤ n
size_ge n h = size_reaches n (size n - 1) (pred_lt (size n) (size_pos n h))
  where
    pred_lt : (z : ℕ) → 0 < z → z - 1 < z
    pred_lt z p = omega arith

pub size_shift : (q d : ℕ) → 0 < q → size (q * 2 ^ d) ≡ size q + d
size_shift q d h =
    size_exact (size q - 1 + d) (q * 2 ^ d) (le_trans (le_of_eq (pow-add 2 (size q - 1) d)) (mul-le-mul_right (2 ^ d) (size_ge q h)))
    (subst (λ (y : ℕ). q * 2 ^ d < 2 ^ y) (one_more (size q) d (size_pos q h)) (shl_lt (size q) d (size-lt q)))
    ∙ sym (one_more (size q) d (size_pos q h))
  where
    one_more : (z e : ℕ) → 0 < z → z + e ≡ suc (z - 1 + e)
    one_more z e p = omega arith

pub leading_size : (q : ℕ) → 0 < q → q < 2 ^ 64 → count_leading_zeros 64 q + size q ≡ 64
leading_size q h l =
    let t = leading_top 64 q h l in
    ap (λ (z : ℕ). count_leading_zeros 64 q + z) (size_exact t.0 q t.2 t.3) ∙ t.1

-- ---- powers of four
pub squares : (i : ℕ) → 4 ^ i ≡ 2 ^ i * 2 ^ i
squares zero = refl
squares (suc i) = pow-succ' 4 i ∙ ap (λ (y : ℕ). 4 * y) (squares i) ∙ sym (sq_twice (2 ^ i)) ∙ ap (λ (y : ℕ). y * y) (sym (pow-succ' 2 i))

pub four_pow : (i : ℕ) → 4 ^ i ≡ 2 ^ (i + i)
four_pow i = squares i ∙ sym (pow-add 2 i i)

pub four_pos : (i : ℕ) → 0 < 4 ^ i
four_pos i = one-le-pow i 4 (pow_pos 2)

-- ---- the pairs that are lost
pub pairs_is : (p q d : ℕ) → 0 < q → pairs p (q * 2 ^ d) ≡ (size q + d + 1 - 2 * p) / 2
unfolding pairs
pairs_is p q d h = ap (λ (z : ℕ). (z + 1 - 2 * p) / 2) (size_shift q d h)

-- ---- what is left, as q * 2 ^ j, and how large that is. `i + i` digits are lost
pub record Left (p q d : ℕ) : Type 0 where
  pub j : ℕ
  pub is : kept p (q * 2 ^ d) ≡ q * 2 ^ j
  pub whole : j + (pairs p (q * 2 ^ d) + pairs p (q * 2 ^ d)) ≡ d
  pub least : 2 * p ≤ size q + j + 1
  pub most : size q + j ≤ 2 * p

pub left : (p q d : ℕ) → 0 < q → size q ≤ p → 0 < p → 2 * p ≤ d + 2 → Left p q d
unfolding kept
left p q d h s P D =
    let i = pairs p (q * 2 ^ d) in
    let e = pairs_is p q d h in
    let z = size_pos q h in
    let w : d - (i + i) + (i + i) ≡ d = omega arith in
    record {
      j = d - (i + i);
      is =
          ap (λ (y : ℕ). q * 2 ^ y / 4 ^ i) (sym w)
          ∙ ap (λ (y : ℕ). q * y / 4 ^ i) (pow-add 2 (d - (i + i)) (i + i) ∙ ap (λ (y : ℕ). 2 ^ (d - (i + i)) * y) (sym (four_pow i)))
          ∙ ap (λ (y : ℕ). y / 4 ^ i) (sym (mul_assoc q (2 ^ (d - (i + i))) (4 ^ i)))
          ∙ mul-div_cancel (q * 2 ^ (d - (i + i))) (four_pos i);
      whole = w;
      least = omega arith;
      most = omega arith;
    }

pub left_ge : (p q d : ℕ) → 0 < q → Left p q d → 2 ^ (p - 1) * 2 ^ (p - 1) ≤ kept p (q * 2 ^ d)
left_ge p q d h l =
    le_trans (le_of_eq (sym (pow-add 2 (p - 1) (p - 1))))
    (le_trans (pow_mono (enough p (size q) l.j (size_pos q h) l.least))
    (le_trans (le_of_eq (pow-add 2 (size q - 1) l.j)) (le_trans (mul-le-mul_right (2 ^ l.j) (size_ge q h)) (le_of_eq (sym l.is)))))
  where
    enough : (p z j : ℕ) → 0 < z → 2 * p ≤ z + j + 1 → p - 1 + (p - 1) ≤ z - 1 + j
    enough p z j a b = omega arith

pub left_room : (p q d : ℕ) → 0 < p → size q ≤ p → Left p q d → kept p (q * 2 ^ d) + 2 ^ p ≤ 2 ^ p * 2 ^ p
left_room p q d P s l = rw l.is (go (dec_le p l.j))
  where
    j : ℕ
    j = l.j

    next : q * 2 ^ j + 2 ^ j ≤ 2 ^ (size q + j)
    next = le_trans (le_of_eq (sym (suc-mul q (2 ^ j)))) (le_trans (mul-le-mul_right (2 ^ j) (size-lt q)) (le_of_eq (sym (pow-add 2 (size q) j))))

    short : (p z j : ℕ) → 0 < p → z ≤ p → (p ≤ j → ⊥) → z + j ≤ p + p - 1
    short p z j a b g = let c : j < p = lt_of_not-le g in omega arith

    half : (p : ℕ) → 0 < p → p ≤ p + p - 1
    half p a = omega arith

    most : (p z : ℕ) → z ≤ 2 * p → z ≤ p + p
    most p z a = omega arith

    twice : (p : ℕ) → 0 < p → 2 ^ p * 2 ^ p ≡ 2 * 2 ^ (p + p - 1)
    twice p a = sym (pow-add 2 p p) ∙ ap (λ (y : ℕ). 2 ^ y) (one_more p a) ∙ pow-succ' 2 (p + p - 1)
      where
        one_more : (p : ℕ) → 0 < p → p + p ≡ suc (p + p - 1)
        one_more p a = omega arith

    go : Dec (p ≤ j) → q * 2 ^ j + 2 ^ p ≤ 2 ^ p * 2 ^ p
    go (yes g) =
        let a = next in
        let b = pow_mono g in
        let c : 2 ^ (size q + j) ≤ 2 ^ (p + p) = pow_mono (most p (size q + j) l.most) in
        let e = pow-add 2 p p in
        omega arith
    go (no g) =
        let a = next in
        let b : 2 ^ (size q + j) ≤ 2 ^ (p + p - 1) = pow_mono (short p (size q) j P s g) in
        let c : 2 ^ p ≤ 2 ^ (p + p - 1) = pow_mono (half p P) in
        let e = twice p P in
        omega arith

pub left_back : (p q d : ℕ) → Left p q d → kept p (q * 2 ^ d) * 4 ^ pairs p (q * 2 ^ d) ≡ q * 2 ^ d
left_back p q d l =
    let i = pairs p (q * 2 ^ d) in
    ap (λ (y : ℕ). y * 4 ^ i) l.is
    ∙ mul_assoc q (2 ^ l.j) (4 ^ i)
    ∙ ap (λ (y : ℕ). q * y) (ap (λ (y : ℕ). 2 ^ l.j * y) (four_pow i) ∙ sym (pow-add 2 l.j (i + i)) ∙ ap (λ (y : ℕ). 2 ^ y) l.whole)

-- ---- the rule's signed numbers, in these

module _ (p q k l : ℕ) (some : 0 < q) (few : size q ≤ p) (precise : 0 < p) (room : 2 * p ≤ l + 2) where
  pub exponent_is : root_exponent p q (sub_ℕ k l) ≡ sub_ℕ (pairs p (q * 2 ^ (k + l))) l
  unfolding root_exponent half
  exponent_is =
      let z = size_pos q some in
      let e : (k + (size q + 1) + 2 * l - (l + 2 * p)) / 2 ≡ pairs p (q * 2 ^ (k + l)) = omega (arith, pairs_is p q (k + l) some) in
      rw (plus_nat k l (size q + 1), minus_nat (k + (size q + 1)) l (2 * p), half_sub (k + (size q + 1)) (l + 2 * p) l (omega arith), e)

  pub left_in : Left p q (k + l)
  left_in = left p q (k + l) some few precise (omega arith)

  pub scaled_is : scaled p q (sub_ℕ k l) ≡ kept p (q * 2 ^ (k + l))
  unfolding scaled
  scaled_is =
      let i = pairs p (q * 2 ^ (k + l)) in
      let c = left_in in
      let w = c.whole in
      let n : k + 2 * l - (l + 2 * i) ≡ c.j = omega arith in
      rw (exponent_is, excess_sub k l i l, sub_pos (k + 2 * l) (l + 2 * i) (omega arith), n, c.is)

  -- the shift that puts the digits of X at the top of 64, as the code has it
  pub excess_is : sub_ℕ k l -ℤ pos 2 *ℤ root_exponent p q (sub_ℕ k l) ≡ pos left_in.j
  excess_is =
      let i = pairs p (q * 2 ^ (k + l)) in
      let c = left_in in
      let w = c.whole in
      let n : k + 2 * l - (l + 2 * i) ≡ c.j = omega arith in
      rw (exponent_is, excess_sub k l i l, sub_pos (k + 2 * l) (l + 2 * i) (omega arith), n)

  pub shifted_is : p ≤ 60 → q * 2 ^ (left_in.j + 64 - 2 * p) % 2 ^ 64 * 4 ^ p ≡ scaled p q (sub_ℕ k l) * 2 ^ 64
  shifted_is h =
      let c = left_in in
      let s = c.j + 64 - 2 * p in
      let least = c.least in
      let most = c.most in
      let room : size q + s ≤ 64 = omega arith in
      let moved : s + (p + p) ≡ c.j + 64 = omega arith in
      ap (λ (n : ℕ). n * 4 ^ p) (shl_exact (size q) s 64 (size-lt q) room)
      ∙ mul_assoc q (2 ^ s) (4 ^ p)
      ∙ ap (λ (y : ℕ). q * y) (ap (λ (y : ℕ). 2 ^ s * y) (four_pow p) ∙ sym (pow-add 2 s (p + p)) ∙ ap (λ (y : ℕ). 2 ^ y) moved ∙ pow-add 2 c.j 64)
      ∙ sym (mul_assoc q (2 ^ c.j) (2 ^ 64))
      ∙ ap (λ (y : ℕ). y * 2 ^ 64) (sym (scaled_is ∙ c.is))
