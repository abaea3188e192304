-- What `bits_where` says of each bit: the word is below 2 ^ n, so each weight that is added stands apart from those before it.
use Prim.Native.Nat.{ℕ, zero, suc, ◌+◌, ◌-◌, ◌*◌, ◌/◌, ◌^◌, ◌≤◌, ◌<◌, min}
use mathlib.Core.Path.{◌≡◌, refl, sym, ap, ◌∙◌}
use mathlib.Core.Bool.{Bool, true, false, ◌||◌}
use native.Mathlib.Nat.{div-eq_of_lt, add-div_right, add-mul-div_left, add-mul-mod_self_left, pow-suc, pow-succ', lt_of_lt_of_le, lt_of_not-le, add-zero}
use native.Mathlib.Decide.{dec_le}
use native.Mathlib.Omega.{arith}
use native.Mathlib.Numerals.{add-one}
use borrow.Author.Count.{below_more}
use lib.Bits.{bit_or, or_block}
use lib.Pow.{pow_mono, pow_pos, pow-add}
use Rattle.std.specs.Prelude.{if◌then◌else◌}
use Rattle.bits.specs.Bits.{bit, bits_where}

pub weight_most : (t : Bool) (w : ℕ) → (if t then w else 0) ≤ w
weight_most true w = omega arith
weight_most false w = omega arith

pub bits_below : (p : ℕ → Bool) (n : ℕ) → bits_where p n < 2 ^ n
unfolding bits_where
bits_below p zero = omega arith
bits_below p (suc n) =
    let h : bits_where p n < 2 ^ n = bits_below p n in
    let g : (if p n then 2 ^ n else 0) ≤ 2 ^ n = weight_most (p n) (2 ^ n) in
    omega arith

-- one turn of a loop that adds the weights up
pub bits_more : (p : ℕ → Bool) (j b w v : ℕ) → b ≡ bits_where p j → w ≡ 2 ^ j → v ≡ (if p j then w else 0) → b + v ≡ bits_where p (j + 1)
unfolding bits_where
bits_more p j b w v h g e = rw (e, h, g, add-one)

-- one turn of a loop over at most twelve bits, whose numbers stay small
pub record Turned (p : ℕ → Bool) (j v w x : ℕ) : Type 0 where
  pub so_far : v + x ≡ bits_where p (j + 1)
  pub next : w * 2 ≡ 2 ^ (j + 1)
  pub small : v + x < 4096
  pub low : w ≤ 2048

pub turn : (p : ℕ → Bool) (j v w x : ℕ) {t : Bool} → j < 12 → v ≡ bits_where p j → w ≡ 2 ^ j → t ≡ p j → x ≡ (if t then w else 0) → Turned p j v w x
turn p j v w x l ev ew et ex =
    let s : v + x ≡ bits_where p (j + 1) = bits_more p j v w x ev ew (rw et at ex) in
    let b = bits_below p (j + 1) in
    let m : 2 ^ (j + 1) ≤ 2 ^ 12 = pow_mono {j = 12} (omega arith) in
    let n : 2 ^ j ≤ 2 ^ 11 = pow_mono {j = 11} (omega arith) in
    record {
      so_far = s;
      next = rw (add-one, pow-suc, ew);
      small = omega arith;
      low = omega arith;
    }

-- a word below 2 ^ j has no bit j
pub bit_above : (w j : ℕ) → w < 2 ^ j → bit w j ≡ false
unfolding bit
bit_above w j h = rw (div-eq_of_lt h)

-- 0 has none
pub no_bits : (j : ℕ) → bit 0 j ≡ false
no_bits j = bit_above 0 j (pow_pos j)

-- with its weight added the word has bit j
top_bit : (w j : ℕ) → w < 2 ^ j → bit (w + 2 ^ j) j ≡ true
unfolding bit
top_bit w j h = rw (add-div_right w (pow_pos j), div-eq_of_lt h)

-- a higher weight leaves bit j
lower_bit : (w j k : ℕ) → bit (w + 2 ^ (j + suc k)) j ≡ bit w j
unfolding bit
lower_bit w j k = rw (pow-add 2 j (suc k), add-mul-div_left w (2 ^ suc k) (pow_pos j), pow-succ' 2 k, add-mul-mod_self_left (w / 2 ^ j) 2 (2 ^ k))

module _ (p : ℕ → Bool) where
  last_bit : (n : ℕ) (t : Bool) → bit (bits_where p n + (if t then 2 ^ n else 0)) n ≡ t
  last_bit n true = top_bit (bits_where p n) n (bits_below p n)
  last_bit n false = rw add-zero (bit_above (bits_where p n) n (bits_below p n))

  kept_bit : (n j : ℕ) (t : Bool) → j < n → bit (bits_where p n + (if t then 2 ^ n else 0)) j ≡ bit (bits_where p n) j
  kept_bit n j true l = let e : n ≡ j + suc (n - suc j) = omega arith in ap (λ (m : ℕ). bit (bits_where p n + 2 ^ m) j) e ∙ lower_bit (bits_where p n) j (n - suc j)
  kept_bit n j false l = rw add-zero

  -- bit j is set exactly where p holds of j
  pub bit_where : (n j : ℕ) → j < n → bit (bits_where p n) j ≡ p j
  unfolding bits_where
  bit_where zero j l = absurd (omega arith)
  bit_where (suc n) j l = below_more (λ (i : ℕ). bit (bits_where p (suc n)) i ≡ p i) n (λ i h. kept_bit n i (p n) h ∙ bit_where n i h) (last_bit n (p n)) j (omega arith)

  -- and no bit is set past those below n
  pub no_bit_past : (n j : ℕ) → n ≤ j → bit (bits_where p n) j ≡ false
  no_bit_past n j h = bit_above (bits_where p n) j (lt_of_lt_of_le (bits_below p n) (pow_mono h))

-- ---- words by their tests

-- of tests that agree
pub bits_same : (p q : ℕ → Bool) (n : ℕ) → ((j : ℕ) → j < n → p j ≡ q j) → bits_where p n ≡ bits_where q n
unfolding bits_where
bits_same p q zero e = refl
bits_same p q (suc n) e = rw (bits_same p q n (λ j l. e j (omega arith)), e n (omega arith))

-- no test holds: the word is 0
pub bits_none : (p : ℕ → Bool) (n : ℕ) → ((j : ℕ) → j < n → p j ≡ false) → bits_where p n ≡ 0
unfolding bits_where
bits_none p zero e = refl
bits_none p (suc n) e = rw (bits_none p n (λ j l. e j (omega arith)), e n (omega arith))

-- tests that fail from m on add nothing there
pub bits_cut : (p : ℕ → Bool) (n m : ℕ) → ((j : ℕ) → m ≤ j → p j ≡ false) → bits_where p n ≡ bits_where p (min n m)
unfolding bits_where
bits_cut p zero m e = let k : min 0 m ≡ 0 = omega arith in rw k
bits_cut p (suc n) m e = go (dec_le m n) (bits_cut p n m e)
  where
    go : Dec (m ≤ n) → bits_where p n ≡ bits_where p (min n m) → bits_where p n + (if p n then 2 ^ n else 0) ≡ bits_where p (min (suc n) m)
    go (yes l) h = let k : min (suc n) m ≡ min n m = omega arith in rw (e n l, k, add-zero) h
    go (no l) h = let k : min (suc n) m ≡ suc n = omega (arith, lt_of_not-le l) in rw k

-- the bits of either word: a weight stands above the words below it, so it is joined by itself
abbrev digit : Bool → ℕ
digit true = 1
digit false = 0

as_block : (t : Bool) (n a : ℕ) → a + (if t then 2 ^ n else 0) ≡ digit t * 2 ^ n + a
as_block true n a = omega arith
as_block false n a = omega arith

digits_joined : (s t : Bool) → bit_or (digit s) (digit t) ≡ digit (s || t)
digits_joined true true = refl
digits_joined true false = refl
digits_joined false true = refl
digits_joined false false = refl

pub bits_or : (p q : ℕ → Bool) (n : ℕ) → bit_or (bits_where p n) (bits_where q n) ≡ bits_where (λ (j : ℕ). p j || q j) n
unfolding bits_where
bits_or p q zero = refl
bits_or p q (suc n) =
    let joined = or_block n (digit (p n)) (digit (q n)) (bits_where p n) (bits_where q n) (bits_below p n) (bits_below q n) in
    rw (as_block (p n) n (bits_where p n), as_block (q n) n (bits_where q n), as_block (p n || q n) n (bits_where (λ (j : ℕ). p j || q j) n), sym (bits_or p q n), sym (digits_joined (p n) (q n))) joined
