-- Which ticks a time bin has: the bin is a quotient rounded down, of the ticks before.
use Rattle.refusal.specs.declared.Refusal.{Refusal}
use Prim.Native.Nat.{ℕ, zero, suc, ◌+◌, ◌-◌, ◌*◌, ◌/◌, ◌<◌, ◌≤◌, min}
use mathlib.Core.Path.{◌≡◌, sym, ap, ◌∙◌}
use mathlib.Core.Bool.{Bool, true, false, false≢true}
use native.Mathlib.Omega.{arith}
use native.Mathlib.Nat.{add-sub_cancel, zero-div, mul-le-mul_right, le-div_iff_mul-le, div-lt_iff_lt-mul}
use lib.Dec.{eqb}
use lib.Ieee.Nearest.{div_mono}
use borrow.Author.Tests.{ne_eqb}
use Rattle.std.specs.Prelude.{if◌then◌else◌, Err, Ok, Result}
use Rattle.conformal.specs.Rule.{bin_at}
use Rattle.conformal.specs.Answer.{on_horizon, time_bin_of}
use Rattle.conformal.specs.Promises.{from_zero, TimeBins}

-- the rule's case for tick 0 is no exception: before it no ticks are over either
pub no_exception : (t horizon : ℕ) → (if eqb t 0 then 0 else from_zero (t - 1) horizon) ≡ from_zero (t - 1) horizon
no_exception zero horizon = sym (ap (λ (q : ℕ). min q 15) (zero-div horizon))
no_exception (suc t) horizon = rw (ne_eqb (suc t) 0 (λ z. omega arith))

one_less : (t horizon : ℕ) → from_zero (t + 1 - 1) horizon ≡ from_zero t horizon
one_less t horizon = ap (λ (n : ℕ). from_zero n horizon) (add-sub_cancel t 1)

-- ---- what an answer says

answered : (t horizon : ℕ) → 0 < horizon → time_bin_of t horizon ≡ Ok (bin_at t horizon)
unfolding time_bin_of
answered t horizon h = rw (ne_eqb horizon 0 (λ z. omega (arith, h, z)))

abbrev is_bin : Result ℕ Refusal → Bool
is_bin (Err r) = false
is_bin (Ok b) = true

abbrev bin_in : Result ℕ Refusal → ℕ
bin_in (Err r) = 0
bin_in (Ok b) = b

-- an answer that is a bin is the rule's, on a horizon of a tick or more
record Given (t horizon b : ℕ) : Type 0 where
  ticks : 0 < horizon
  bin : b ≡ from_zero (t - 1) horizon

given : (t horizon b : ℕ) → time_bin_of t horizon ≡ Ok b → Given t horizon b
unfolding time_bin_of bin_at
given t zero b e = absurd (false≢true (ap is_bin e))
given t (suc h) b e = record { ticks = omega arith; bin = ap bin_in (sym e ∙ answered t (suc h) (omega arith)) ∙ no_exception t (suc h) }

module _ (horizon : ℕ) where
  never_decreases : (t u b c : ℕ) → t ≤ u → time_bin_of t horizon ≡ Ok b → time_bin_of u horizon ≡ Ok c → b ≤ c
  never_decreases t u b c l p q =
      let h = (given t horizon b p).ticks in
      let fewer : (t - 1) * 16 ≤ (u - 1) * 16 = omega (arith, l) in
      let quotients : (t - 1) * 16 / horizon ≤ (u - 1) * 16 / horizon = div_mono _ _ _ _ h h (mul-le-mul_right horizon fewer) in
      let first : b ≡ from_zero (t - 1) horizon = (given t horizon b p).bin in
      let second : c ≡ from_zero (u - 1) horizon = (given u horizon c q).bin in
      omega (arith, quotients, first, second)

  at_most_15 : (t b : ℕ) → time_bin_of t horizon ≡ Ok b → b ≤ 15
  at_most_15 t b p = let bin : b ≡ from_zero (t - 1) horizon = (given t horizon b p).bin in omega (arith, bin)

  -- tick t + 1, with t ticks over
  module _ (t b : ℕ) (p : time_bin_of (t + 1) horizon ≡ Ok b) where
    ticks : 0 < horizon
    ticks = (given (t + 1) horizon b p).ticks

    bin : b ≡ from_zero t horizon
    bin = (given (t + 1) horizon b p).bin ∙ one_less t horizon

    begun : b * horizon ≤ t * 16
    begun = (le-div_iff_mul-le ticks).0 (let e : b ≡ from_zero t horizon = bin in omega (arith, e))

    not_ended : b < 15 → t * 16 < (b + 1) * horizon
    not_ended l = (div-lt_iff_lt-mul ticks).0 (let e : b ≡ from_zero t horizon = bin in omega (arith, e, l))

pub bins : (horizon : ℕ) → TimeBins horizon
unfolding time_bin_of bin_at
bins horizon = record {
  answered = λ t. answered t horizon;
  one_later = λ t. ap (on_horizon horizon) (no_exception (t + 1) horizon ∙ one_less t horizon);
  tick_0 = ap (on_horizon horizon) (no_exception 0 horizon ∙ sym (no_exception 1 horizon));
  never_decreases = never_decreases horizon;
  at_most_15 = at_most_15 horizon;
  begun = begun horizon;
  not_ended = not_ended horizon;
}
