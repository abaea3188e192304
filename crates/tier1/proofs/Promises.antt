-- What the features promise: a refused call hands back what came, and the valid bits of one that passes are built bit by bit, each from its own condition.
use Prim.Native.Nat.{ℕ, zero, suc, ◌+◌, ◌-◌, ◌<◌}
use mathlib.Core.Path.{◌≡◌, refl, sym, ap, ◌∙◌}
use mathlib.Core.Bool.{Bool, true, false}
use mathlib.Core.List.{List}
use native.Mathlib.Omega.{arith}
use borrow.Author.Tests.{lt-ltb, le-ltb}
use lib.Dec.{leb, ltb}
use lib.ListN.{length}
use lib.Ieee.{Float, Format}
use Rattle.refusal.specs.Order.{refused_for}
use Rattle.checked.specs.Each.{at, table}
use Rattle.checked.specs.Finite.{+0}
use Rattle.checked.proofs.Each.{table_at}
use Rattle.bits.specs.Bits.{bit, bits_where}
use Rattle.chunk.specs.declared.Header.{Header}
use Rattle.conformal.specs.Feat.{TCE, ACC, ACM-NEG, NJR, REACH, SPEED-PEAK, PATH-INEFF, STALL, EXT0}
use Rattle.conformal.specs.declared.Scores.{Scores}
use Rattle.bits.proofs.Bits.{bit_where, no_bit_past}
use Rattle.envelope.specs.Derive.{kept}
use Rattle.window.specs.declared.Trail.{Trail}
use Rattle.envelope.specs.declared.FuseConfig.{FuseConfig}
use Rattle.tier1.specs.declared.Tier1Rt.{Tier1Rt}
use Rattle.tier1.specs.Rule.{PE-WINDOW, box_dims, boundary_at, boundary_bits, ineff_at, valid_at, value_at, twelve}
use Rattle.tier1.proofs.Ticks.{chunk_keeps_trail}
use Rattle.tier1.specs.Of.{manifest_of, after_chunk, Tick, tick, scores_with, featured_at, ticked, features_refusal, features_of}
use Rattle.tier1.specs.Promises.{Given, answer, number, common, Always, Passed, Held, quiet, Promised}

module _ (fm : Format) (x : Given) (rt : Tier1Rt) (sc : Scores) where
  abbrev c : FuseConfig
  c = x.config

  abbrev ext : List Float
  ext = x.externals

  abbrev found : Tick
  found = (ticked fm c x.tables x.position ext x.came x.header x.rows rt sc).value

  -- a call that passes gives the rule's state, and its features in the scores
  passed_is : number fm x rt sc ≡ 0 → answer fm x rt sc ≡ record { refusal = refused_for 0; rt = found.rt; scores = scores_with found.found sc }
  unfolding features_of
  passed_is e = rw e

  stays : {A : Type 0} (part : Scores → A) → part (scores_with found.found sc) ≡ part sc → part (answer fm x rt sc).scores ≡ part sc
  unfolding features_of
  stays part e = go (number fm x rt sc)
    where
      go : (n : ℕ) → part (featured_at n found rt sc).scores ≡ part sc
      go zero = e
      go (suc n) = refl

  same_trail : found.rt.trail ≡ rt.trail
  unfolding ticked tick
  same_trail = chunk_keeps_trail fm (manifest_of fm c) x.position x.header x.rows rt x.came

  trail_kept : (answer fm x rt sc).rt.trail ≡ rt.trail
  unfolding features_of
  trail_kept = go (number fm x rt sc)
    where
      go : (n : ℕ) → (featured_at n found rt sc).rt.trail ≡ rt.trail
      go zero = same_trail
      go (suc n) = refl

  always : Always fm x rt sc
  unfolding features_of
  always = record {
    refused_whole = λ n e. rw e;
    z_kept = stays (λ (s : Scores). s.z) refl;
    s_kept = stays (λ (s : Scores). s.s) refl;
    fired_kept = stays (λ (s : Scores). s.fired) refl;
    trail_kept = trail_kept;
  }

  -- ---- which features are valid

  abbrev says : ℕ → Bool
  says = valid_at found.rt.held_valid rt.trail.len (length ext)

  valid_is : found.found.valid ≡ bits_where says 12
  unfolding ticked tick twelve
  valid_is = ap (λ (t : ℕ). bits_where (valid_at found.rt.held_valid t (length ext)) 12) (ap (λ (t : Trail). t.len) same_trail)

  abbrev value : ℕ → Float
  value = value_at found.rt.held (ineff_at fm (manifest_of fm c) found.rt.trail).value ext

  f_is : found.found.f ≡ table (λ (j : ℕ). kept (says j) (value j)) 12
  unfolding ticked tick twelve
  f_is = ap (λ (t : ℕ). table (λ (j : ℕ). kept (valid_at found.rt.held_valid t (length ext) j) (value j)) 12) (ap (λ (t : Trail). t.len) same_trail)

  module _ (e : number fm x rt sc ≡ 0) where
    pub says_exactly : (j : ℕ) → j < 12 → bit (answer fm x rt sc).scores.valid j ≡ says j
    says_exactly j l = rw (passed_is e, valid_is) (bit_where says 12 j l)

    path_ineff_exactly : bit (answer fm x rt sc).scores.valid PATH-INEFF ≡ leb PE-WINDOW rt.trail.len
    unfolding valid_at
    path_ineff_exactly = says_exactly PATH-INEFF (omega arith)

    stall_never : bit (answer fm x rt sc).scores.valid STALL ≡ false
    unfolding valid_at
    stall_never = says_exactly STALL (omega arith)

    -- where a feature is not valid, f is 0.0
    zero_where : (j : ℕ) → j < 12 → bit (answer fm x rt sc).scores.valid j ≡ false → at (answer fm x rt sc).scores.f j ≡ +0
    zero_where j l h = rw (passed_is e, f_is) (table_at (λ (i : ℕ). kept (says i) (value i)) 12 j l ∙ rw (sym (says_exactly j l) ∙ h))

    external_bits : (i : ℕ) → i < 4 → bit (answer fm x rt sc).scores.valid (EXT0 + i) ≡ ltb i (length ext)
    unfolding valid_at
    external_bits i l =
        let n : 8 + i - 8 ≡ i = omega arith in
        says_exactly (8 + i) (omega arith) ∙ rw (le-ltb (8 + i) 6 (omega arith), le-ltb (8 + i) 7 (omega arith), le-ltb (8 + i) 8 (omega arith), n)

    passed : Passed fm x rt sc
    passed = record {
      valid_exactly = λ j l. says_exactly j l ∙ rw (passed_is e);
      no_further_bit = λ j l. rw (passed_is e, valid_is) (no_bit_past says 12 j l);
      path_ineff_exactly = path_ineff_exactly;
      stall_never = stall_never;
      stall_is_zero = zero_where STALL (omega arith) stall_never;
      external_bits = external_bits;
      zero_where_not_valid = zero_where;
    }

-- ---- with a chunk: each held feature is valid exactly under its condition

module _ (fm : Format) (x : Given) (rt : Tier1Rt) (sc : Scores) (there : x.came ≡ true) (e : number fm x rt sc ≡ 0) where
  abbrev holds : ℕ → Bool
  holds = boundary_at (common fm x rt sc) x.header.horizon (box_dims (manifest_of fm x.config) x.position)

  chunk_bit : (j : ℕ) → j < 6 → bit (answer fm x rt sc).scores.valid j ≡ holds j
  unfolding valid_at ticked tick after_chunk boundary_bits
  chunk_bit j l = says_exactly fm x rt sc e j (omega arith) ∙ rw (there, lt-ltb j 6 l) (bit_where holds 6 j l)

  held : Held fm x rt sc
  unfolding ticked tick after_chunk
  held = record {
    tce_exactly = chunk_bit TCE (omega arith);
    acc_exactly = chunk_bit ACC (omega arith);
    acm_neg_exactly = chunk_bit ACM-NEG (omega arith);
    njr_exactly = chunk_bit NJR (omega arith);
    reach_exactly = chunk_bit REACH (omega arith);
    speed_peak_always = chunk_bit SPEED-PEAK (omega arith);
    held_replaced = rw (passed_is fm x rt sc e, there);
  }

-- ---- without a chunk

state_kept : (fm : Format) (x : Given) (rt : Tier1Rt) (sc : Scores) → x.came ≡ false → (answer fm x rt sc).rt ≡ rt
unfolding features_of ticked tick after_chunk
state_kept fm x rt sc e = rw e (go (features_refusal fm x.config x.tables x.position x.externals false x.header x.rows rt sc))
  where
    go : (n : ℕ) → (featured_at n (tick fm (manifest_of fm x.config) x.position x.externals false x.header x.rows rt).value rt sc).rt ≡ rt
    go zero = refl
    go (suc n) = refl

-- the features are those of the state, whatever else is lent
from_state : (fm : Format) (x : Given) (k : Header) (rows : List Float) (rt : Tier1Rt) (sc : Scores) → number fm (quiet x k rows) rt sc ≡ 0
    → (answer fm (quiet x k rows) rt sc).scores ≡ scores_with (twelve fm (manifest_of fm x.config) rt.trail rt.held rt.held_valid x.externals).value sc
unfolding ticked tick after_chunk
from_state fm x k rows rt sc e = rw (passed_is fm (quiet x k rows) rt sc e)

pub promised : Promised
promised = record {
  always = always;
  passed = passed;
  held = held;
  state_kept = state_kept;
  same_again = λ fm x k l rows others rt sc tc e g. record {
    same_features = rw (from_state fm x k rows rt sc e, from_state fm x l others rt tc g);
    same_valid = rw (from_state fm x k rows rt sc e, from_state fm x l others rt tc g);
  };
}
