-- The state after a chunk and the whole answer, from their parts.
use Prim.Native.Nat.{ℕ, zero, suc, ◌≤◌}
use mathlib.Core.Path.{◌≡◌, refl, sym, ap, ◌∙◌}
use mathlib.Core.Bool.{Bool, true, false, not, ◌&&◌, ◌||◌, and-true}
use mathlib.Core.List.{List, [], ◌∷◌}
use native.Mathlib.Omega.{arith}
use borrow.Author.Tests.{eq-eqb}
use lib.ListN.{length}
use lib.Ieee.{Float, Format}
use Rattle.refusal.specs.Order.{computed, ◌when◌, among, given, refusal, refused_for}
use Rattle.std.specs.Prelude.{if◌then◌else◌}
use Rattle.refusal.specs.declared.Refusal.{Refusal}
use Rattle.refusal.proofs.Joint.{neither_applies, refused_first, only_computed}
use Rattle.chunk.specs.Refusals.{lent_reasons}
use Rattle.chunk.specs.Of.{held_of, fill_of}
use Rattle.chunk.specs.declared.ChunkBuf.{ChunkBuf}
use Rattle.chunk.specs.declared.Header.{Header}
use Rattle.chunk.specs.declared.Filled.{Filled}
use Rattle.chunk.proofs.Judged.{lent_accepted, accepted_fits}
use Rattle.conformal.specs.Rule.{Tables}
use Rattle.conformal.specs.declared.Scores.{Scores}
use Rattle.envelope.specs.Derive.{derived}
use Rattle.envelope.specs.declared.Derived.{Derived}
use Rattle.envelope.specs.declared.FuseConfig.{FuseConfig}
use Rattle.tier1.specs.declared.Manifest.{Manifest}
use Rattle.tier1.specs.declared.Kept.{Kept}
use Rattle.tier1.specs.declared.SixFeatures.{SixFeatures}
use Rattle.tier1.specs.declared.AllFeatures.{AllFeatures}
use Rattle.tier1.specs.declared.Tier1Rt.{Tier1Rt}
use Rattle.tier1.specs.declared.TickOut.{TickOut}
use Rattle.tier1.specs.declared.Featured.{Featured}
use Rattle.tier1.specs.declared.Cleared.{Cleared}
use Rattle.tier1.specs.Rule.{boundary, boundary_bits, twelve}
use Rattle.tier1.specs.Refusals.{state_judged}
use Rattle.tier1.specs.Of.{boundary_from, twelve_from, held_from, out_of, whole_answer, kept_of, manifest_from, manifest_of, cleared_rt, after_chunk, Tick, tick, scores_with, featured_at, judged, ticked, features_refusal, features_of, cleared_at, reset_of}
use Rattle.tier1.proofs.Ready.{no_leftover, new_fits}

-- ---- the state after a chunk

-- an accepted chunk is copied in
filled_is : (b : ChunkBuf) (k : Header) (l : List Float) → refusal (lent_reasons l k) ≡ 0 → {r : Filled} → r ≡ fill_of b k l → r.buf ≡ held_of b k l
unfolding fill_of
filled_is b k l z er = rw (er, eq-eqb (refusal (lent_reasons l k)) 0 z)

module _ (fm : Format) (m : Manifest) (p : List Float) (k : Header) (rows : List Float) (rt : Tier1Rt) (there : Bool) where
  pub no_chunk : there ≡ false → ◌≡◌ {A = SixFeatures} (record { held = rt.held; valid = rt.held_valid; sound = true }) (held_from (after_chunk fm m p there k rows rt))
  unfolding after_chunk
  no_chunk e = rw e

  pub chunk_held : {v : Kept} {b : SixFeatures} → there ≡ true → v ≡ kept_of rt
      → b ≡ boundary_from (boundary fm m v rt.prev.«data» p k.t_emit k.horizon rows) (boundary_bits m v p k.t_emit k.horizon)
      → b ≡ held_from (after_chunk fm m p there k rows rt)
  unfolding after_chunk
  chunk_held e ev eb = rw (eb, ev, e, and-true)

  -- the trail is never written
  pub chunk_keeps_trail : (after_chunk fm m p there k rows rt).value.trail ≡ rt.trail
  unfolding after_chunk
  chunk_keeps_trail = go there
    where
      go : (t : Bool) → (after_chunk fm m p t k rows rt).value.trail ≡ rt.trail
      go true = refl
      go false = refl

  -- a chunk replaces the one before
  pub chunk_replaces : (after_chunk fm m p there k rows rt).value
      ≡ record {
        prev = if there then held_of rt.prev k rows else rt.prev;
        have_prev = there || rt.have_prev;
        trail = rt.trail;
        held = (after_chunk fm m p there k rows rt).value.held;
        held_valid = (after_chunk fm m p there k rows rt).value.held_valid;
      }
  unfolding after_chunk
  chunk_replaces = go there
    where
      go : (t : Bool) → (after_chunk fm m p t k rows rt).value
          ≡ record {
            prev = if t then held_of rt.prev k rows else rt.prev;
            have_prev = t || rt.have_prev;
            trail = rt.trail;
            held = (after_chunk fm m p t k rows rt).value.held;
            held_valid = (after_chunk fm m p t k rows rt).value.held_valid;
          }
      go true = refl
      go false = refl

-- the manifest reads what is derived
pub manifest_is : (fm : Format) (c : FuseConfig) {d : Derived} {m : Manifest} → m ≡ manifest_from c d → d ≡ derived fm c → m ≡ manifest_of fm c
unfolding manifest_of
manifest_is fm c em ed = em ∙ ap (manifest_from c) ed

-- ---- reset

pub cleared_refused : (rt : Tier1Rt) {n : ℕ} {r : Refusal} → n ≡ given (state_judged rt) → r ≡ refused_for n → (n ≡ 0 → ⊥) → ◌≡◌ {A = Cleared} (record { refusal = r; rt = rt }) (reset_of rt)
unfolding reset_of
cleared_refused rt {n} en er f = rw (er, ← en) (go n f)
  where
    go : (n : ℕ) → (n ≡ 0 → ⊥) → ◌≡◌ {A = Cleared} (record { refusal = refused_for n; rt = rt }) (cleared_at n rt)
    go zero f = absurd (f refl)
    go (suc n) f = refl

pub cleared_passed : (rt : Tier1Rt) {n : ℕ} {r : Refusal} → n ≡ given (state_judged rt) → r ≡ refused_for n → n ≡ 0 → ◌≡◌ {A = Cleared} (record { refusal = r; rt = cleared_rt rt }) (reset_of rt)
unfolding reset_of
cleared_passed rt en er z = rw (er, ← en, z)

-- ---- the whole answer

at_number : (n : ℕ) → (n ≡ 0 → ⊥) → (x : Tick) (rt : Tier1Rt) (sc : Scores) → ◌≡◌ {A = Featured} (record { refusal = refused_for n; rt = rt; scores = sc }) (featured_at n x rt sc)
at_number zero f x rt sc = absurd (f refl)
at_number (suc n) f x rt sc = refl

module _ (fm : Format) (c : FuseConfig) (tabs : Tables) (p ext : List Float) (there : Bool) (k : Header) (rows : List Float) (rt : Tier1Rt) (sc : Scores) where
  abbrev answer : Featured
  answer = features_of fm c tabs p ext there k rows rt sc

  abbrev number : ℕ
  number = given (judged fm c tabs p ext there k rows rt sc)

  numbered : (n : ℕ) → n ≡ features_refusal fm c tabs p ext there k rows rt sc → (n ≡ 0 → ⊥) → {r : Refusal} → r ≡ refused_for n → ◌≡◌ {A = Featured} (record { refusal = r; rt = rt; scores = sc }) answer
  unfolding features_of
  numbered n e f er = rw (er, ← e) (at_number n f (ticked fm c tabs p ext there k rows rt sc).value rt sc)

  pub lent_refused : (n : ℕ) → n ≡ number → (n ≡ 0 → ⊥) → {r : Refusal} → r ≡ refused_for n → ◌≡◌ {A = Featured} (record { refusal = r; rt = rt; scores = sc }) answer
  unfolding features_refusal
  lent_refused n e f = numbered n (e ∙ sym (refused_first (judged fm c tabs p ext there k rows rt sc) (not (ticked fm c tabs p ext there k rows rt sc).sound) (no_leftover fm c tabs p ext there k rows rt sc, tt) (λ z. f (e ∙ z)))) f

  module _ {n : ℕ} (en : n ≡ number) (ez : n ≡ 0) {m : Manifest} {x : SixFeatures} {y : AllFeatures} (em : m ≡ manifest_of fm c) (ex : x ≡ held_from (after_chunk fm m p there k rows rt))
      (ey : y ≡ twelve_from (twelve fm m rt.trail x.held x.valid ext)) where
    tick_sound : x.sound && y.sound ≡ (ticked fm c tabs p ext there k rows rt sc).sound
    unfolding ticked tick
    tick_sound = rw (ey, ex, em, and-true, chunk_keeps_trail fm (manifest_of fm c) p k rows rt there)

    known : (b : Bool) → x.sound && y.sound ≡ b → features_refusal fm c tabs p ext there k rows rt sc ≡ (if not b then 13 else 0)
    unfolding features_refusal
    known b e =
        only_computed (judged fm c tabs p ext there k rows rt sc) (not (ticked fm c tabs p ext there k rows rt sc).sound) (sym en ∙ ez)
        ∙ ap (λ (t : Bool). if not t then 13 else 0) (sym tick_sound ∙ e)

    pub not_sound : x.sound && y.sound ≡ false → ◌≡◌ {A = Featured} (record { refusal = refused_for 13; rt = rt; scores = sc }) answer
    not_sound e = numbered 13 (sym (known false e)) (λ w. omega arith) refl

    pub passes : x.sound && y.sound ≡ true → {r : Refusal} → r ≡ refused_for 0 → ◌≡◌ {A = TickOut} (record { refusal = r; held = x.held; held_valid = x.valid; f = y.f; valid = y.valid }) (out_of answer)
    unfolding features_of ticked tick
    passes e er = rw (er, known true e, ey, ex, em, chunk_keeps_trail fm (manifest_of fm c) p k rows rt there)

  -- ---- the whole answer, from what a tick comes to

  -- the chunk that is kept
  abbrev kept_chunk : ChunkBuf
  kept_chunk = if there then held_of rt.prev k rows else rt.prev

  whole_at : (n : ℕ) → n ≡ 0 → featured_at n (ticked fm c tabs p ext there k rows rt sc).value rt sc ≡ whole_answer kept_chunk there rt sc (out_of (featured_at n (ticked fm c tabs p ext there k rows rt sc).value rt sc))
  unfolding ticked tick
  whole_at zero e = ap (λ (s : Tier1Rt). record { refusal = refused_for 0; rt = s; scores = scores_with (ticked fm c tabs p ext there k rows rt sc).value.found sc }) (chunk_replaces fm (manifest_of fm c) p k rows rt there)
  whole_at (suc n) e = absurd (omega arith)

  number_is : answer.refusal.number ≡ features_refusal fm c tabs p ext there k rows rt sc
  unfolding features_of
  number_is = go (features_refusal fm c tabs p ext there k rows rt sc)
    where
      go : (n : ℕ) → (featured_at n (ticked fm c tabs p ext there k rows rt sc).value rt sc).refusal.number ≡ n
      go zero = refl
      go (suc n) = refl

  pub passed_whole : answer.refusal.number ≡ 0 → answer ≡ whole_answer kept_chunk there rt sc (out_of answer)
  unfolding features_of
  passed_whole e = whole_at (features_refusal fm c tabs p ext there k rows rt sc) (sym number_is ∙ e)

  -- an accepted chunk has room in the buffer
  accepted_chunk : answer.refusal.number ≡ 0 → there ≡ true → refusal (lent_reasons rows k) ≡ 0
  unfolding features_refusal
  accepted_chunk e t =
      let z = (neither_applies (judged fm c tabs p ext there k rows rt sc) (among ((computed when not (ticked fm c tabs p ext there k rows rt sc).sound) ∷ [])) (sym number_is ∙ e)).0 in
      (new_fits fm c tabs p ext there k rows rt sc refl z t).0

  pub rows_fit : answer.refusal.number ≡ 0 → there ≡ true → length rows ≤ 512
  rows_fit e t = accepted_fits (lent_accepted rows k (accepted_chunk e t)).0

  prev_is : answer.refusal.number ≡ 0 → (if there then (fill_of rt.prev k rows).buf else rt.prev) ≡ kept_chunk
  prev_is e = go there (accepted_chunk e)
    where
      go : (t : Bool) → (t ≡ true → refusal (lent_reasons rows k) ≡ 0)
          → (if t then (fill_of rt.prev k rows).buf else rt.prev) ≡ (if t then held_of rt.prev k rows else rt.prev)
      go true f = filled_is rt.prev k rows (f refl) refl
      go false f = refl

  pub passed_from : {a : TickOut} {b : ChunkBuf} {r : Featured} → a ≡ out_of answer → a.refusal.number ≡ 0 → b ≡ (if there then (fill_of rt.prev k rows).buf else rt.prev)
      → r ≡ whole_answer b there rt sc a
      → r ≡ answer
  passed_from {a} {b} ea ez eb er =
      let z : answer.refusal.number ≡ 0 = sym (ap (λ (x : TickOut). x.refusal.number) ea) ∙ ez in
      er ∙ rw (ea, eb, prev_is z) (sym (passed_whole z))

  pub refused_from : {a : TickOut} → a ≡ out_of answer → (a.refusal.number ≡ 0 → ⊥) → ◌≡◌ {A = Featured} (record { refusal = a.refusal; rt = rt; scores = sc }) answer
  unfolding features_of
  refused_from {a} ea f = rw ea (go (features_refusal fm c tabs p ext there k rows rt sc) (λ z. f (rw ea z)))
    where
      go : (n : ℕ) → ((featured_at n (ticked fm c tabs p ext there k rows rt sc).value rt sc).refusal.number ≡ 0 → ⊥)
          → ◌≡◌ {A = Featured} (record { refusal = (featured_at n (ticked fm c tabs p ext there k rows rt sc).value rt sc).refusal; rt = rt; scores = sc }) (featured_at n (ticked fm c tabs p ext there k rows rt sc).value rt sc)
      go zero f = absurd (f refl)
      go (suc n) f = refl
