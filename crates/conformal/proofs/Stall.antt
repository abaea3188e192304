-- Nothing of Stall passes: an accepted calibration has passed the test of 17 and, by that of 1, counts no more terms than that test looks at.
use Rattle.refusal.specs.declared.Refusal.{Refusal}
use Prim.Native.Nat.{ℕ, zero, suc, ◌≤◌, ◌<◌}
use mathlib.Core.Path.{◌≡◌, refl, ap, ◌∙◌}
use mathlib.Core.Bool.{Bool, true, false, ◌||◌, false≢true}
use mathlib.Core.List.{List}
use native.Mathlib.Omega.{arith}
use borrow.Author.Tests.{lt-leb, leb-true, eq-eqb, not-true, not-false, leb-false, ltb-true}
use lib.Dec.{leb, ltb}
use lib.ListN.{get_or}
use lib.Ieee.{Float, Format}
use Rattle.refusal.specs.Order.{size, withdrawn, among}
use Rattle.refusal.specs.Exactly.{exactly_none}
use Rattle.std.specs.Prelude.{Err, Ok, Result}
use Rattle.bits.specs.Bits.{bit}
use Rattle.bits.proofs.Bits.{bit_where}
use Rattle.checked.specs.Each.{at}
use Rattle.checked.specs.Finite.{+0}
use Rattle.checked.proofs.Each.{all_at, all_same, every_at, table_at}
use Rattle.conformal.specs.Feat.{STALL}
use Rattle.conformal.specs.Rule.{Tables, standard, standard_at, standards, join_where, greatest_where, least_of, term_at, counts, aggregate, fires, fired_bits, trips}
use Rattle.conformal.specs.Refusals.{each_counted, named, without_stall_of, sizes_ok, numbers_ok, features_ok}
use Rattle.conformal.specs.Answer.{scores_judged, judged, live_of, standards_of, standardised, aggregated, verdict, tripped}
use Rattle.conformal.specs.Promises.{NamesNoStall, WithoutStall, with_terms, AgreeCounted, PastTheCount}
use Rattle.conformal.specs.declared.Calibration.{Calibration}
use Rattle.conformal.specs.declared.Scores.{Scores}

-- ---- what is accepted names it nowhere

module _ (cal : Calibration) (sizes : sizes_ok cal ≡ true) (features : features_ok cal ≡ true) where
  terms_few : cal.gate.n_terms ≤ 8
  unfolding sizes_ok
  terms_few = leb-true _ _ (every_at _ 0 sizes)

  in_no_term : (i : ℕ) → i < cal.gate.n_terms → bit (term_at cal.gate i) STALL ≡ false
  unfolding features_ok
  in_no_term i l =
      let looked = all_at (λ (k : ℕ). leb cal.gate.n_terms k || without_stall_of (term_at cal.gate k)) 8 (every_at _ 1 features) i (omega (arith, terms_few, l)) in
      not-true _ (rw (lt-leb cal.gate.n_terms i l) at looked)

  pub names_no_stall : NamesNoStall cal
  unfolding features_ok
  names_no_stall = record { not_in_mask = not-true _ (every_at _ 0 features); not_in_a_term = in_no_term }

-- a verdict that says whether the scores trip is no refusal
abbrev told : Result Bool Refusal → Bool
told (Err r) = false
told (Ok b) = true

answered : (n : ℕ) (b c : Bool) → verdict n b ≡ Ok c → n ≡ 0
answered zero b c e = refl
answered (suc n) b c e = absurd (false≢true (ap told e))

module _ (cal : Calibration) (t : Tables) (sc : Scores) where
  accepted : (sound : Bool) → judged cal t sc sound ≡ 0 → NamesNoStall cal
  unfolding judged
  accepted sound h =
      let passed = (exactly_none (among (scores_judged cal t sc sound))).1 h in
      names_no_stall cal (not-false (sizes_ok cal) (passed size)) (not-false (features_ok cal) (passed withdrawn))

  -- ---- what is answered

  z_of_stall : (f : Format) (bin : ℕ) → (standardised f cal t bin sc).refusal.number ≡ 0 → at (standardised f cal t bin sc).scores.z STALL ≡ +0
  unfolding standardised standards standard
  z_of_stall f bin e =
      rw (eq-eqb _ 0 e) (table_at (λ (j : ℕ). (standard_at f t bin (live_of cal sc) sc.f j).value) 12 STALL (omega arith) ∙ rw (accepted _ e).not_in_mask)

  stall_not_fired : (aggregated cal t sc).refusal.number ≡ 0 → bit (aggregated cal t sc).scores.fired STALL ≡ false
  unfolding aggregated fired_bits
  stall_not_fired e =
      rw (eq-eqb _ 0 e) (bit_where (fires (live_of cal sc) cal.tau sc.z) 12 STALL (omega arith) ∙ rw (accepted true e).not_in_mask)

  pub without_stall : WithoutStall cal t sc
  unfolding standardised aggregated tripped
  without_stall = record {
    to_standardise = λ f bin e. accepted (standards_of f cal t bin sc).sound e;
    to_aggregate = accepted true;
    to_trip = λ b e. accepted true (answered (judged cal t sc true) (trips cal.tau sc.s) b e);
    z_of_stall = z_of_stall;
    stall_not_fired = stall_not_fired;
  }

-- ---- what stands past the count

module _ (cal : Calibration) (terms : List ℕ) (same : AgreeCounted cal terms) where
  abbrev other : Calibration
  other = with_terms cal terms

  one_term : (p : ℕ → Bool) (i : ℕ) → (leb cal.gate.n_terms i || p (get_or terms i 0)) ≡ (leb cal.gate.n_terms i || p (term_at cal.gate i))
  one_term p i = go (leb cal.gate.n_terms i) refl
    where
      go : (past : Bool) → leb cal.gate.n_terms i ≡ past → (past || p (get_or terms i 0)) ≡ (past || p (term_at cal.gate i))
      go true e = refl
      go false e = ap p (same i (leb-false cal.gate.n_terms i e))

  each_same : (p : ℕ → Bool) → each_counted p other.gate ≡ each_counted p cal.gate
  each_same p = all_same _ _ 8 (λ i l. one_term p i)

  pub same_sizes : sizes_ok other ≡ sizes_ok cal
  unfolding sizes_ok
  same_sizes = rw (each_same named)

  pub same_numbers : (t : Tables) → numbers_ok other t ≡ numbers_ok cal t
  unfolding numbers_ok
  same_numbers t = refl

  pub same_features : features_ok other ≡ features_ok cal
  unfolding features_ok
  same_features = rw (each_same without_stall_of)

  judged_same : (t : Tables) (sc : Scores) (sound : Bool) → judged other t sc sound ≡ judged cal t sc sound
  unfolding judged
  judged_same t sc sound = rw (same_sizes, same_numbers t, same_features)

  -- the greatest over the first n terms
  abbrev most : Calibration → (ℕ → Bool) → List Float → ℕ → Float
  most c live z = greatest_where (counts c.gate live) (λ (i : ℕ). least_of z (term_at c.gate i))

  -- a term that does not count is passed over
  most_same : (live : ℕ → Bool) (z : List Float) (n : ℕ) → most other live z n ≡ most cal live z n
  unfolding join_where
  most_same live z zero = refl
  most_same live z (suc i) = go (ltb i cal.gate.n_terms) refl (most_same live z i)
    where
      go : (counted : Bool) → ltb i cal.gate.n_terms ≡ counted → most other live z i ≡ most cal live z i → most other live z (suc i) ≡ most cal live z (suc i)
      go true e before = rw (same i (ltb-true i cal.gate.n_terms e), before)
      go false e before = rw e before

  pub past_the_count : (t : Tables) (sc : Scores) → PastTheCount cal terms t sc
  unfolding standardised aggregated tripped aggregate
  past_the_count t sc = record {
    same_standards = λ f bin. rw (judged_same t sc (standards_of f cal t bin sc).sound);
    same_aggregate = rw (judged_same t sc true, most_same (live_of cal sc) sc.z 8);
    same_trip = rw (judged_same t sc true);
  }
