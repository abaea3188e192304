-- What the gate promises beyond its rules: what s is, that an empty term is never live, what fired says, that
-- nothing of Stall passes, and which ticks a time bin has. The proof is
-- `proofs/Promises.promised`.
use Rattle.std.specs.Prelude.{ℕ, ◌+◌, ◌*◌, ◌/◌, ◌<◌, ◌≤◌, min, ◌≡◌, Bool, true, false, not, ◌&&◌, ◌⊎◌, List, T, get_or, Float, Ok}
use Rattle.std.specs.Float.{Format, inf}
use Rattle.std.specs.Float.Ieee.{lt, is_nan}
use Rattle.checked.specs.Each.{at, Among}
use Rattle.checked.specs.Finite.{+0}
use Rattle.bits.specs.Bits.{bit}
use Rattle.conformal.specs.Feat.{STALL}
use Rattle.conformal.specs.Rule.{Tables, live_term, least_of, term_at, counts, aggregate, fired_bits, bin_at}
use Rattle.conformal.specs.Answer.{standardised, aggregated, tripped, on_horizon, time_bin_of}
use Rattle.conformal.specs.declared.GateSpec.{GateSpec}
use Rattle.conformal.specs.declared.Calibration.{Calibration}
use Rattle.conformal.specs.declared.Scores.{Scores}

-- p holds of none below n
abbrev pub NoneOf : (ℕ → Bool) → ℕ → Type 0
NoneOf p n = (j : ℕ) → j < n → p j ≡ false

-- each z is a number
abbrev pub Numbers : List Float → Type 0
Numbers z = (j : ℕ) → j < 12 → T (not (is_nan (at z j)))

-- ---- s: the greatest, over the live terms, of the least z of each

pub record Aggregate (gate : GateSpec) (live : ℕ → Bool) (z : List Float) : Type 0 where
  -- no live term has a least above s
  pub s_is_greatest : Numbers z → (i : ℕ) → i < 8 → counts gate live i ≡ true → lt (aggregate gate live z) (least_of z (term_at gate i)) ≡ false
  -- s is the least of a live term, or no term is live and s is negative infinity
  pub s_is_attained : Among (counts gate live) 8 (λ (i : ℕ). aggregate gate live z ≡ least_of z (term_at gate i)) ⊎ (NoneOf (counts gate live) 8 × (aggregate gate live z ≡ inf true))
  pub none_live : NoneOf (counts gate live) 8 → aggregate gate live z ≡ inf true

-- ---- Stall

-- Stall is neither in the mask nor in a term that counts
pub record NamesNoStall (cal : Calibration) : Type 0 where
  pub not_in_mask : bit cal.mask STALL ≡ false
  pub not_in_a_term : (i : ℕ) → i < cal.gate.n_terms → bit (term_at cal.gate i) STALL ≡ false

pub record WithoutStall (cal : Calibration) (t : Tables) (sc : Scores) : Type 0 where
  -- a calibration that is accepted names it nowhere
  pub to_standardise : (f : Format) (bin : ℕ) → (standardised f cal t bin sc).refusal.number ≡ 0 → NamesNoStall cal
  pub to_aggregate : (aggregated cal t sc).refusal.number ≡ 0 → NamesNoStall cal
  pub to_trip : (b : Bool) → tripped cal t sc ≡ Ok b → NamesNoStall cal
  -- so its z is 0.0 and it does not fire, also where the scores that came in hold it
  pub z_of_stall : (f : Format) (bin : ℕ) → (standardised f cal t bin sc).refusal.number ≡ 0 → at (standardised f cal t bin sc).scores.z STALL ≡ +0
  pub stall_not_fired : (aggregated cal t sc).refusal.number ≡ 0 → bit (aggregated cal t sc).scores.fired STALL ≡ false

-- cal with other terms
abbrev pub with_terms : Calibration → List ℕ → Calibration
with_terms cal terms = record { mask = cal.mask; gate = record { n_terms = cal.gate.n_terms; terms = terms }; tau = cal.tau }

-- terms that agree with those of cal as far as they count
abbrev pub AgreeCounted : Calibration → List ℕ → Type 0
AgreeCounted cal terms = (i : ℕ) → i < cal.gate.n_terms → get_or terms i 0 ≡ term_at cal.gate i

-- what stands past the count, be it Stall or a bit above 11, changes no answer
pub record PastTheCount (cal : Calibration) (terms : List ℕ) (t : Tables) (sc : Scores) : Type 0 where
  pub same_standards : (f : Format) (bin : ℕ) → standardised f (with_terms cal terms) t bin sc ≡ standardised f cal t bin sc
  pub same_aggregate : aggregated (with_terms cal terms) t sc ≡ aggregated cal t sc
  pub same_trip : tripped (with_terms cal terms) t sc ≡ tripped cal t sc

-- ---- the time bin, over whole numbers

-- the bin where ticks are numbered from 0: t x 16 / horizon_ticks rounded down, at most 15
abbrev pub from_zero : ℕ → ℕ → ℕ
from_zero t horizon = min (t * 16 / horizon) 15

pub record TimeBins (horizon : ℕ) : Type 0 where
  -- every tick has a bin, unless the horizon has no ticks
  pub answered : (t : ℕ) → 0 < horizon → time_bin_of t horizon ≡ Ok (bin_at t horizon)
  -- tick t + 1 is answered as tick t is where ticks are numbered from 0, and tick 0 as tick 1
  pub one_later : (t : ℕ) → time_bin_of (t + 1) horizon ≡ on_horizon horizon (from_zero t horizon)
  pub tick_0 : time_bin_of 0 horizon ≡ time_bin_of 1 horizon
  -- a later tick is in no earlier bin, and no bin is above 15
  pub never_decreases : (t u b c : ℕ) → t ≤ u → time_bin_of t horizon ≡ Ok b → time_bin_of u horizon ≡ Ok c → b ≤ c
  pub at_most_15 : (t b : ℕ) → time_bin_of t horizon ≡ Ok b → b ≤ 15
  -- rounded down: with t ticks over, b sixteenths of the horizon are over, and b + 1 are not unless b is the last bin
  pub begun : (t b : ℕ) → time_bin_of (t + 1) horizon ≡ Ok b → b * horizon ≤ t * 16
  pub not_ended : (t b : ℕ) → time_bin_of (t + 1) horizon ≡ Ok b → b < 15 → t * 16 < (b + 1) * horizon

pub record Promised : Type 0 where
  -- no feature of a term has a z below the term's least, which in a live term is the z of one of them
  pub least_is_least : (z : List Float) → Numbers z → (term j : ℕ) → j < 12 → bit term j ≡ true → lt (at z j) (least_of z term) ≡ false
  pub least_is_attained : (z : List Float) (live : ℕ → Bool) (term : ℕ) → live_term live term ≡ true → Among (bit term) 12 (λ (j : ℕ). least_of z term ≡ at z j)
  -- a term that names no feature is never live
  pub empty_never_live : (live : ℕ → Bool) → live_term live 0 ≡ false
  pub aggregates : (gate : GateSpec) (live : ℕ → Bool) (z : List Float) → Aggregate gate live z
  -- fired has a bit exactly for a live feature with a z above tau
  pub fired_exactly : (live : ℕ → Bool) (tau : Float) (z : List Float) (j : ℕ) → j < 12 → bit (fired_bits live tau z) j ≡ (live j && lt tau (at z j))
  pub fired_no_more : (live : ℕ → Bool) (tau : Float) (z : List Float) (j : ℕ) → 12 ≤ j → bit (fired_bits live tau z) j ≡ false
  pub without_stall : (cal : Calibration) (t : Tables) (sc : Scores) → WithoutStall cal t sc
  pub past_the_count : (cal : Calibration) (terms : List ℕ) → AgreeCounted cal terms → (t : Tables) (sc : Scores) → PastTheCount cal terms t sc
  pub bins : (horizon : ℕ) → TimeBins horizon
