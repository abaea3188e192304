-- The rules at the declared structs.
use Rattle.std.specs.Prelude.{ℕ, zero, suc, ◌-◌, Bool, true, false, not, ◌&&◌, ◌||◌, List, [], ◌∷◌, leb, length, replicate, Float, if◌then◌else◌}
use Rattle.std.specs.Float.{Format}
use Rattle.refusal.specs.Order.{Reason, computed, ◌when◌, among, given, ◌or◌, refused_for}
use Rattle.checked.specs.Each.{table}
use Rattle.checked.specs.Finite.{+0}
use Rattle.checked.specs.Checked.{Checked, ◌>>=◌, pure}
use Rattle.chunk.specs.Of as chunk
use Rattle.chunk.specs.declared.ChunkBuf.{ChunkBuf}
use Rattle.chunk.specs.declared.Header.{Header}
use Rattle.window.specs.Of as window
use Rattle.bits.specs.Bits.{bits_where}
use Rattle.conformal.specs.Rule.{Tables}
use Rattle.conformal.specs.declared.Scores.{Scores}
use Rattle.envelope.specs.Derive.{kept, derived}
use Rattle.envelope.specs.Refusals.{config_judged}
use Rattle.envelope.specs.declared.Derived.{Derived}
use Rattle.envelope.specs.declared.FuseConfig.{FuseConfig}
use Rattle.tier1.specs.declared.Manifest.{Manifest}
use Rattle.tier1.specs.declared.Kept.{Kept}
use Rattle.tier1.specs.declared.Pair.{Pair}
use Rattle.tier1.specs.declared.SixFeatures.{SixFeatures}
use Rattle.tier1.specs.declared.AllFeatures.{AllFeatures}
use Rattle.tier1.specs.declared.Tier1Rt.{Tier1Rt}
use Rattle.tier1.specs.declared.TickOut.{TickOut}
use Rattle.tier1.specs.declared.Featured.{Featured}
use Rattle.tier1.specs.declared.Cleared.{Cleared}
use Rattle.tier1.specs.Rule.{overlap, tce, acc, if_there, boundary, boundary_bits, valid_at, value_at, Twelve, twelve}
use Rattle.tier1.specs.Refusals.{new_judged, state_judged, lent_judged}

-- what the features read of a configuration and of the numbers derived from it
abbrev pub manifest_from : FuseConfig → Derived → Manifest
manifest_from c d = record {
  dim = c.dim;
  pos_dim = c.pos_dim;
  center = c.norm.center;
  inverse = d.inv_norm_scale;
  iso = d.norm_scale_iso;
}

unfoldable pub manifest_of : Format → FuseConfig → Manifest
manifest_of f c = manifest_from c (derived f c)

-- the chunk before, where one was delivered and is held
abbrev pub kept_of : Tier1Rt → Kept
kept_of rt = record {
  there = rt.have_prev && rt.prev.filled;
  t_emit = rt.prev.header.t_emit;
  horizon = rt.prev.header.horizon;
  dim = rt.prev.header.dim;
}

-- ---- what a private function answers: the rule's value, and whether all that was computed is finite

abbrev pub pair_from : Checked Float → Checked Float → Pair
pair_from x y = record { first = x.value; second = y.value; sound = x.sound && y.sound }

-- Tce and Acc, where two rows or more overlap
abbrev pub met_from : Format → Manifest → Kept → List Float → ℕ → List Float → ℕ → Pair
met_from f m k a t b h =
    pair_from
    (if_there (leb 2 (overlap k t h m.dim)) (tce f m a (t - k.t_emit) b (overlap k t h m.dim)))
    (if_there (leb 2 (overlap k t h m.dim)) (acc f m a (t - k.t_emit) b (overlap k t h m.dim)))

abbrev pub boundary_from : Checked (List Float) → ℕ → SixFeatures
boundary_from x bits = record { held = x.value; valid = bits; sound = x.sound }

abbrev pub gathered_from : List Float → ℕ → ℕ → Float → Bool → List Float → AllFeatures
gathered_from held held_valid_of len ineff sound ext = record {
  f = table (λ (j : ℕ). kept (valid_at held_valid_of len (length ext) j) (value_at held ineff ext j)) 12;
  valid = bits_where (valid_at held_valid_of len (length ext)) 12;
  sound = sound;
}

abbrev pub twelve_from : Checked Twelve → AllFeatures
twelve_from x = record { f = x.value.f; valid = x.value.valid; sound = x.sound }

-- the held features of a state
abbrev pub held_from : Checked Tier1Rt → SixFeatures
held_from x = record { held = x.value.held; valid = x.value.held_valid; sound = x.sound }

-- ---- the state

-- nothing is held yet
abbrev pub new_rt : Tier1Rt
new_rt = record {
  prev = chunk.new_chunk;
  have_prev = false;
  trail = window.new_trail;
  held = replicate 6 +0;
  held_valid = 0;
}

-- the chunk before, the trail and the held features are forgotten
abbrev pub cleared_rt : Tier1Rt → Tier1Rt
cleared_rt rt = record {
  prev = chunk.cleared_of rt.prev;
  have_prev = false;
  trail = window.cleared_of rt.trail;
  held = replicate 6 +0;
  held_valid = 0;
}

-- a new chunk replaces all held features, invalid ones too, and the chunk before
unfoldable pub after_chunk : Format → Manifest → List Float → Bool → Header → List Float → Tier1Rt → Checked Tier1Rt
after_chunk f m p there k rows rt =
    if there
    then (do
      held ← boundary f m (kept_of rt) rt.prev.«data» p k.t_emit k.horizon rows
      pure (record { prev = chunk.held_of rt.prev k rows; have_prev = true; trail = rt.trail; held = held; held_valid = boundary_bits m (kept_of rt) p k.t_emit k.horizon }))
    else pure rt

-- ---- the features of a tick

-- the state after the chunk, and from it the twelve features
pub record Tick : Type 0 where
  pub rt : Tier1Rt
  pub found : Twelve

unfoldable pub tick : Format → Manifest → List Float → List Float → Bool → Header → List Float → Tier1Rt → Checked Tick
tick f m p ext there k rows rt = do
  new ← after_chunk f m p there k rows rt
  found ← twelve f m new.trail new.held new.held_valid ext
  pure (record { rt = new; found = found })

-- f and valid are replaced, all else of the scores stays
abbrev pub scores_with : Twelve → Scores → Scores
scores_with x sc = record { f = x.f; z = sc.z; s = sc.s; valid = x.valid; fired = sc.fired }

-- where the refusal is 0 the new state and scores, else those that came in
abbrev pub featured_at : ℕ → Tick → Tier1Rt → Scores → Featured
featured_at zero x rt sc = record { refusal = refused_for 0; rt = x.rt; scores = scores_with x.found sc }
featured_at (suc n) x rt sc = record { refusal = refused_for (suc n); rt = rt; scores = sc }

module _ (f : Format) (c : FuseConfig) (t : Tables) (p ext : List Float) (there : Bool) (k : Header) (rows : List Float) (rt : Tier1Rt) (sc : Scores) where
  -- 1 to 12
  abbrev pub judged : Reason → Bool
  judged = among (config_judged f c t) or (new_judged there k (length rows) c.dim or (state_judged rt or lent_judged p ext there rows sc))

  unfoldable pub ticked : Checked Tick
  ticked = tick f (manifest_of f c) p ext there k rows rt

  -- the number of the refusal, 13 included
  unfoldable pub features_refusal : ℕ
  features_refusal = given (judged or among ((computed when not ticked.sound) ∷ []))

  unfoldable pub features_of : Featured
  features_of = featured_at features_refusal ticked.value rt sc

-- what a tick finds, of its whole answer
abbrev pub out_of : Featured → TickOut
out_of a = record {
  refusal = a.refusal;
  held = a.rt.held;
  held_valid = a.rt.held_valid;
  f = a.scores.f;
  valid = a.scores.valid;
}

-- the whole answer of a tick that passes, from what it finds and the chunk that is kept
abbrev pub whole_answer : ChunkBuf → Bool → Tier1Rt → Scores → TickOut → Featured
whole_answer prev there rt sc a = record {
  refusal = a.refusal;
  rt = record {
    prev = prev;
    have_prev = there || rt.have_prev;
    trail = rt.trail;
    held = a.held;
    held_valid = a.held_valid;
  };
  scores = record { f = a.f; z = sc.z; s = sc.s; valid = a.valid; fired = sc.fired };
}

-- what `reset` answers
abbrev pub cleared_at : ℕ → Tier1Rt → Cleared
cleared_at zero rt = record { refusal = refused_for 0; rt = cleared_rt rt }
cleared_at (suc n) rt = record { refusal = refused_for (suc n); rt = rt }

unfoldable pub reset_of : Tier1Rt → Cleared
reset_of rt = cleared_at (given (state_judged rt)) rt
