-- What the gate promises: least and greatest pick one of two at each step, and `fired` is built bit by bit. The time bins are in `Bins`, Stall in `Stall`.
use Prim.Native.Nat.{ℕ, ◌<◌}
use mathlib.Core.Path.{◌≡◌, refl, sym, ◌∙◌}
use mathlib.Core.Bool.{Bool, true, false, false≢true}
use mathlib.Core.Logic.{◌⊎◌, ⊎_elim}
use mathlib.Core.List.{List}
use lib.Ieee.{Float, inf, lt}
use Rattle.checked.specs.Each.{at, some, Among}
use Rattle.checked.specs.Least.{lesser, greater}
use Rattle.checked.proofs.Each.{and_left, some_none}
use Rattle.checked.proofs.Ordered.{Real}
use Rattle.checked.proofs.Extremes.{lesser_either, greater_either, lesser_left, lesser_right, greater_left, greater_right}
use Rattle.bits.specs.Bits.{bit}
use Rattle.conformal.specs.Rule.{live_term, least_of, term_at, counts, aggregate, fires, fired_bits}
use Rattle.conformal.specs.Promises.{NoneOf, Numbers, Aggregate, Promised}
use Rattle.conformal.specs.declared.GateSpec.{GateSpec}
use Rattle.bits.proofs.Bits.{bit_where, no_bit_past}
use Rattle.conformal.proofs.Bins.{bins}
use Rattle.conformal.proofs.Stall.{without_stall, past_the_count}
use Rattle.conformal.proofs.Picked.{join_number, none_beyond, attained, lesser_start, greater_start, real_∞}

-- ---- s

module _ (z : List Float) (numbers : Numbers z) (term : ℕ) where
  least_is_least : (j : ℕ) → j < 12 → bit term j ≡ true → lt (at z j) (least_of z term) ≡ false
  unfolding least_of
  least_is_least = none_beyond lesser (inf false) lesser_either (bit term) (at z) lt lesser_left lesser_right (real_∞ false) 12 numbers

  least_number : Real (least_of z term)
  unfolding least_of
  least_number = join_number lesser (inf false) lesser_either (bit term) (at z) (real_∞ false) 12 numbers

least_is_attained : (z : List Float) (live : ℕ → Bool) (term : ℕ) → live_term live term ≡ true → Among (bit term) 12 (λ (j : ℕ). least_of z term ≡ at z j)
unfolding least_of live_term
least_is_attained z live term h =
    ⊎_elim (λ a. a) (λ b. absurd (false≢true (sym (some_none (bit term) 12 b.0) ∙ and_left (some (bit term) 12) _ h)))
    (attained lesser (inf false) lesser_either (bit term) (at z) lesser_start 12)

module _ (gate : GateSpec) (live : ℕ → Bool) (z : List Float) where
  abbrev s : Float
  s = aggregate gate live z

  abbrev least : ℕ → Float
  least i = least_of z (term_at gate i)

  s_is_greatest : Numbers z → (i : ℕ) → i < 8 → counts gate live i ≡ true → lt s (least i) ≡ false
  unfolding aggregate
  s_is_greatest numbers =
      none_beyond greater (inf true) greater_either (counts gate live) least (λ (x m : Float). lt m x) greater_left greater_right (real_∞ true) 8
      (λ i l. least_number z numbers (term_at gate i))

  s_is_attained : Among (counts gate live) 8 (λ (i : ℕ). s ≡ least i) ⊎ (NoneOf (counts gate live) 8 × (s ≡ inf true))
  unfolding aggregate
  s_is_attained = attained greater (inf true) greater_either (counts gate live) least greater_start 8

  aggregates : Aggregate gate live z
  aggregates = record {
    s_is_greatest = s_is_greatest;
    s_is_attained = s_is_attained;
    none_live = λ h. ⊎_elim (λ a. absurd (false≢true (sym (h a.index a.within) ∙ a.holds))) (λ b. b.1) s_is_attained;
  }

pub promised : Promised
unfolding live_term some bit fired_bits
promised = record {
  least_is_least = λ z numbers term. least_is_least z numbers term;
  least_is_attained = least_is_attained;
  empty_never_live = λ live. refl;
  aggregates = aggregates;
  fired_exactly = λ live tau z. bit_where (fires live tau z) 12;
  fired_no_more = λ live tau z. no_bit_past (fires live tau z) 12;
  without_stall = without_stall;
  past_the_count = past_the_count;
  bins = bins;
}
