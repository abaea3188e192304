-- Whole numbers as differences of two natural ones, `sub_ℕ a b`: their sums, doubles and halves, and how large they are.
use Rattle.std.proofs.Common.{◌≡◌, ℕ, zero, suc, ◌+◌, ◌-◌, ◌*◌, ◌/◌, ◌^◌, ◌<◌, ◌≤◌, T, ℤ, pos, negsuc, ◌+ℤ◌, ◌-ℤ◌, ◌*ℤ◌, neg_ℤ, nat_abs, sym, ap, ◌∙◌, zero-le, lt_of_le_of_lt, lt_of_not-le, arith, lit<, w64, Fits, to_z, of_z, le-ltb, lt-ltb}
use native.Mathlib.Decide.{dec_le}
use lib.IntN.{sub_ℕ}
use lib.Signed.{shr_z, mag, non_neg, nat_abs-le, pos-nat_abs}
use mir.ValLaws.{to_z-of_z}

pub sub_pos : (a b : ℕ) → b ≤ a → sub_ℕ a b ≡ pos (a - b)
sub_pos a b h = rw (le-ltb a b h)

pub sub_neg : (a b : ℕ) → a < b → sub_ℕ a b ≡ negsuc (b - suc a)
sub_neg a b h = rw (lt-ltb a b h)

-- two differences are equal where they are as fractions of 1 are: crosswise
pub sub_eq : (a b c d : ℕ) → a + d ≡ c + b → sub_ℕ a b ≡ sub_ℕ c d
sub_eq a b c d e = go (dec_le b a)
  where
    go : Dec (b ≤ a) → sub_ℕ a b ≡ sub_ℕ c d
    go (yes h) =
        let g : d ≤ c = omega arith in
        let n : a - b ≡ c - d = omega arith in
        sub_pos a b h ∙ ap pos n ∙ sym (sub_pos c d g)
    go (no h) =
        let k : a < b = lt_of_not-le h in
        let g : c < d = omega arith in
        let n : b - suc a ≡ d - suc c = omega arith in
        sub_neg a b k ∙ ap negsuc n ∙ sym (sub_neg c d g)

pub pos_is : (n : ℕ) → pos n ≡ sub_ℕ n 0
pos_is n = sym (sub_pos n 0 zero-le ∙ ap pos (omega arith))

negsuc_is : (n : ℕ) → negsuc n ≡ sub_ℕ 0 (suc n)
negsuc_is n = sym (sub_neg 0 (suc n) (omega arith) ∙ ap negsuc (omega arith))

pub sub_mag : (a b c : ℕ) → a ≤ c → b ≤ c → mag (sub_ℕ a b) ≤ c
sub_mag a b c h g = go (dec_le b a)
  where
    go : Dec (b ≤ a) → mag (sub_ℕ a b) ≤ c
    go (yes k) = rw (sub_pos a b k) (omega arith)
    go (no k) = let l : a < b = lt_of_not-le k in rw (sub_neg a b l) (omega arith)

pub add_sub : (a b c d : ℕ) → sub_ℕ a b +ℤ sub_ℕ c d ≡ sub_ℕ (a + c) (b + d)
add_sub a b c d = go (dec_le b a) (dec_le d c)
  where
    go : Dec (b ≤ a) → Dec (d ≤ c) → sub_ℕ a b +ℤ sub_ℕ c d ≡ sub_ℕ (a + c) (b + d)
    go (yes h) (yes g) = rw (sub_pos a b h, sub_pos c d g) (pos_is (a - b + (c - d)) ∙ sub_eq (a - b + (c - d)) 0 (a + c) (b + d) (omega arith))
    go (yes h) (no g) = let k : c < d = lt_of_not-le g in rw (sub_pos a b h, sub_neg c d k) (sub_eq (a - b) (suc (d - suc c)) (a + c) (b + d) (omega arith))
    go (no h) (yes g) = let k : a < b = lt_of_not-le h in rw (sub_neg a b k, sub_pos c d g) (sub_eq (c - d) (suc (b - suc a)) (a + c) (b + d) (omega arith))
    go (no h) (no g) =
        let k : a < b = lt_of_not-le h in
        let l : c < d = lt_of_not-le g in
        rw (sub_neg a b k, sub_neg c d l)
        (negsuc_is (suc (b - suc a + (d - suc c))) ∙ sub_eq 0 (suc (suc (b - suc a + (d - suc c)))) (a + c) (b + d) (omega arith))

pub neg_pos : (n : ℕ) → neg_ℤ (pos n) ≡ sub_ℕ 0 n
neg_pos zero = pos_is 0
neg_pos (suc n) = negsuc_is n

pub plus_nat : (a b n : ℕ) → sub_ℕ a b +ℤ pos n ≡ sub_ℕ (a + n) b
plus_nat a b n = rw (pos_is n) (add_sub a b n 0 ∙ sub_eq (a + n) (b + 0) (a + n) b (omega arith))

pub minus_nat : (a b n : ℕ) → sub_ℕ a b -ℤ pos n ≡ sub_ℕ a (b + n)
minus_nat a b n = rw (neg_pos n) (add_sub a b 0 n ∙ sub_eq (a + 0) (b + n) a (b + n) (omega arith))

neg_sub : (a b : ℕ) → neg_ℤ (sub_ℕ a b) ≡ sub_ℕ b a
neg_sub a b = go (dec_le b a)
  where
    go : Dec (b ≤ a) → neg_ℤ (sub_ℕ a b) ≡ sub_ℕ b a
    go (yes h) = rw (sub_pos a b h) (neg_pos (a - b) ∙ sub_eq 0 (a - b) b a (omega arith))
    go (no h) = let k : a < b = lt_of_not-le h in rw (sub_neg a b k) (pos_is (suc (b - suc a)) ∙ sub_eq (suc (b - suc a)) 0 b a (omega arith))

pub twice_sub : (a b : ℕ) → pos 2 *ℤ sub_ℕ a b ≡ sub_ℕ (2 * a) (2 * b)
twice_sub a b = go (dec_le b a)
  where
    go : Dec (b ≤ a) → pos 2 *ℤ sub_ℕ a b ≡ sub_ℕ (2 * a) (2 * b)
    go (yes h) = rw (sub_pos a b h) (pos_is (2 * (a - b)) ∙ sub_eq (2 * (a - b)) 0 (2 * a) (2 * b) (omega arith))
    go (no h) = let k : a < b = lt_of_not-le h in rw (sub_neg a b k) (neg_pos (2 * suc (b - suc a)) ∙ sub_eq 0 (2 * suc (b - suc a)) (2 * a) (2 * b) (omega arith))

-- what is left of a difference above twice another
pub excess_sub : (a b c d : ℕ) → sub_ℕ a b -ℤ pos 2 *ℤ sub_ℕ c d ≡ sub_ℕ (a + 2 * d) (b + 2 * c)
excess_sub a b c d = rw (twice_sub c d, neg_sub (2 * c) (2 * d)) (add_sub a b (2 * d) (2 * c))

-- half, rounded down, does not mind an even number more on both sides
pub half_sub : (a b c : ℕ) → b ≤ a + 2 * c → shr_z (sub_ℕ a b) 2 ≡ sub_ℕ ((a + 2 * c - b) / 2) c
half_sub a b c l = go (dec_le b a)
  where
    go : Dec (b ≤ a) → shr_z (sub_ℕ a b) 2 ≡ sub_ℕ ((a + 2 * c - b) / 2) c
    go (yes h) = rw (sub_pos a b h) (pos_is ((a - b) / 2) ∙ sub_eq ((a - b) / 2) 0 ((a + 2 * c - b) / 2) c (omega arith))
    go (no h) =
        let k : a < b = lt_of_not-le h in
        rw (sub_neg a b k) (negsuc_is ((b - suc a) / 2) ∙ sub_eq 0 (suc ((b - suc a) / 2)) ((a + 2 * c - b) / 2) c (omega arith))

-- ---- how large a sum, a difference and a double are

pub add_mag : (y z : ℤ) → mag (y +ℤ z) ≤ mag y + mag z + 1
add_mag (pos a) (pos b) = omega arith
add_mag (pos a) (negsuc b) = sub_mag a (suc b) (a + b + 1) (omega arith) (omega arith)
add_mag (negsuc a) (pos b) = sub_mag b (suc a) (a + b + 1) (omega arith) (omega arith)
add_mag (negsuc a) (negsuc b) = omega arith

neg_mag : (z : ℤ) → mag (neg_ℤ z) ≤ mag z + 1
neg_mag (pos zero) = omega arith
neg_mag (pos (suc a)) = omega arith
neg_mag (negsuc a) = omega arith

pub minus_mag : (y z : ℤ) → mag (y -ℤ z) ≤ mag y + mag z + 2
minus_mag y z = let a = add_mag y (neg_ℤ z) in let b = neg_mag z in omega arith

pub twice_mag : (z : ℤ) → mag (pos 2 *ℤ z) ≤ 2 * mag z + 2
twice_mag (pos a) = omega arith
twice_mag (negsuc a) = rw (neg_pos (2 * suc a)) (sub_mag 0 (2 * suc a) (2 * a + 2) (omega arith) (omega arith))

-- ---- a signed local is read back from its bits

pub read_back : (z : ℤ) → mag z < 2 ^ 63 → to_z w64 (of_z w64 z) ≡ z
read_back z h = to_z-of_z w64 z (record { sfits = h })

-- read back, where it is known what it is
pub returned : (r z : ℤ) → r ≡ z → mag z < 2 ^ 63 → to_z w64 (of_z w64 r) ≡ z
returned r z e h = rw e (read_back z h)

-- a signed number that is not below zero, cast to an unsigned one
pub cast_up : (z : ℤ) → mag z < 2 ^ 63 → T (non_neg z) → (T (non_neg (to_z w64 (of_z w64 z))) × Fits w64 (nat_abs (to_z w64 (of_z w64 z)))) × (pos (nat_abs (to_z w64 (of_z w64 z))) ≡ z)
cast_up z h n = rw (read_back z h) ((n, record { fits = lt_of_le_of_lt (nat_abs-le z h) (lit< tt) }), pos-nat_abs z n)
