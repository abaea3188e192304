-- The promises about a window hold: a mask of n ones keeps the n low digits, and these do not depend on what a push drops.
use Prim.Native.Nat.{ℕ, zero, suc, ◌+◌, ◌*◌, ◌/◌, ◌%◌, ◌^◌}
use mathlib.Core.Path.{◌≡◌, refl, sym, ap, ap₂, ◌∙◌}
use mathlib.Core.Bool.{Bool, false}
use mathlib.Core.List.{List, [], ◌∷◌}
use native.Mathlib.Nat.{mod-one, mod-lt, mod-eq_of_lt, lt_of_lt_of_le, zero-mod, zero-div, div-one}
use native.Mathlib.Numerals.{add-one}
use native.Mathlib.Omega.{arith}
use lib.Bits.{and_mask}
use lib.Count.{ones, ones_step}
use lib.ListN.{take, get_or}
use lib.Pow.{pow_pos, pow_mono, shr-shr}
use lib.Seq.{get_or-take}
use Rattle.window.specs.Rule.{flag}
use Rattle.window.specs.Promises.{bits_after, digits_of, trues, BitsAreLastPushes, BitIsPush, HitsCountLastPushes}
use Rattle.window.proofs.Shift.{half_is_rest, odd_is_newest, shift_keeps, above_drops}

-- the n low digits are the last n pushes
low_digits : (n : ℕ) (l : List Bool) → digits_of l % 2 ^ n ≡ digits_of (take n l)
low_digits zero l = mod-one (digits_of l)
low_digits (suc n) [] = zero-mod (2 ^ suc n)
low_digits (suc n) (h ∷ t) =
    ap (λ (k : ℕ). (digits_of t * 2 + flag h) % 2 ^ k) (sym (add-one n)) ∙ shift_keeps n (digits_of t) h ∙ ap (λ (x : ℕ). x * 2 + flag h) (low_digits n t)

-- after any pushes the bits are the last n of them
pub bits_are_last_pushes : BitsAreLastPushes
bits_are_last_pushes n le l = kept l ∙ low_digits n l
  where
    kept : (l : List Bool) → bits_after n l ≡ digits_of l % 2 ^ n
    kept [] = sym (zero-mod (2 ^ n))
    kept (h ∷ t) =
        and_mask ((bits_after n t * 2 + flag h) % 2 ^ 64) n
        ∙ ap (λ (x : ℕ). x % 2 ^ n) (shift_keeps 63 (bits_after n t) h)
        ∙ ap (λ (x : ℕ). (x % 2 ^ 63 * 2 + flag h) % 2 ^ n) (kept t)
        ∙ ap (λ (x : ℕ). (x * 2 + flag h) % 2 ^ n) (mod-eq_of_lt (lt_of_lt_of_le (mod-lt (digits_of t) (pow_pos n)) (pow_mono le)))
        ∙ above_drops (digits_of t) (flag h) (2 ^ n)

-- digit i of a list's number is its i-th push
digit_is_push : (i : ℕ) (l : List Bool) → digits_of l / 2 ^ i % 2 ≡ flag (get_or l i false)
digit_is_push i [] = ap (λ (x : ℕ). x % 2) (zero-div (2 ^ i))
digit_is_push zero (h ∷ t) = ap (λ (x : ℕ). x % 2) (div-one (digits_of t * 2 + flag h)) ∙ odd_is_newest (digits_of t) h
digit_is_push (suc i) (h ∷ t) =
    ap (λ (k : ℕ). (digits_of t * 2 + flag h) / 2 ^ k % 2) (sym (one_more i)) ∙ ap (λ (x : ℕ). x % 2) (sym (shr-shr (digits_of t * 2 + flag h) 1 i))
    ∙ ap (λ (x : ℕ). x / 2 ^ i % 2) (half_is_rest (digits_of t) h) ∙ digit_is_push i t
  where
    one_more : (k : ℕ) → 1 + k ≡ suc k
    one_more k = omega arith

-- bit i is the push i before the newest
pub bit_is_push : BitIsPush
bit_is_push n le l i lt = ap (λ (x : ℕ). x / 2 ^ i % 2) (bits_are_last_pushes n le l) ∙ digit_is_push i (take n l) ∙ ap flag (get_or-take n l i false lt)

ones_are_trues : (l : List Bool) → ones (digits_of l) ≡ trues l
unfolding ones
ones_are_trues [] = refl
ones_are_trues (h ∷ t) =
    ones_step (digits_of t * 2 + flag h) ∙ ap₂ (λ (x y : ℕ). x + ones y) (odd_is_newest (digits_of t) h) (half_is_rest (digits_of t) h)
    ∙ ap (λ (x : ℕ). flag h + x) (ones_are_trues t)

-- hits counts the true ones among the last n
pub hits_count_last_pushes : HitsCountLastPushes
hits_count_last_pushes n le l = ap ones (bits_are_last_pushes n le l) ∙ ones_are_trues (take n l)
