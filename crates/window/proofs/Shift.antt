-- A number of binary digits moved up by one: its halves, its lowest digit, and what drops out at the top.
use Prim.Native.Nat.{ℕ, ◌+◌, ◌*◌, ◌/◌, ◌%◌, ◌^◌, ◌<◌}
use mathlib.Core.Path.{◌≡◌, sym, ap, ap₂, ◌∙◌}
use mathlib.Core.Bool.{Bool, true, false}
use native.Mathlib.Nat.{mul-add-mod_self_right, div-add-mod', add-mul, add_assoc, mul_right_comm}
use lib.Dec.{lit<}
use lib.Pow.{high, low, mod-pow-add}
use Rattle.window.specs.Rule.{flag}

pub bit_small : (h : Bool) → flag h < 2 ^ 1
bit_small true = lit< tt
bit_small false = lit< tt

pub half_is_rest : (v : ℕ) (h : Bool) → (v * 2 + flag h) / 2 ≡ v
half_is_rest v h = high v 1 (bit_small h)

pub odd_is_newest : (v : ℕ) (h : Bool) → (v * 2 + flag h) % 2 ≡ flag h
odd_is_newest v h = low v 1 (bit_small h)

-- to keep n + 1 digits of a shifted number is to shift n digits
pub shift_keeps : (n v : ℕ) (h : Bool) → (v * 2 + flag h) % 2 ^ (n + 1) ≡ v % 2 ^ n * 2 + flag h
shift_keeps n v h = mod-pow-add (v * 2 + flag h) n 1 ∙ ap₂ (λ (x y : ℕ). x % 2 ^ n * 2 + y) (half_is_rest v h) (odd_is_newest v h)

-- what stands above m does not matter for the next push
pub above_drops : (v b m : ℕ) → (v % m * 2 + b) % m ≡ (v * 2 + b) % m
above_drops v b m =
    sym (mul-add-mod_self_right (v / m * 2) m (v % m * 2 + b))
    ∙ ap (λ (x : ℕ). x % m) (regroup (v / m) (v % m) ∙ ap (λ (x : ℕ). x * 2 + b) (div-add-mod' v m))
  where
    regroup : (q r : ℕ) → q * 2 * m + (r * 2 + b) ≡ (q * m + r) * 2 + b
    regroup q r = ap (λ (x : ℕ). x + (r * 2 + b)) (mul_right_comm q 2 m) ∙ sym (add_assoc (q * m * 2) (r * 2) b) ∙ ap (λ (x : ℕ). x + b) (sym (add-mul (q * m) r 2))
