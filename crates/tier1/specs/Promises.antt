-- What the features promise of a call's own answer: what comes back on refusal, what is never written, which features are valid, and what stands where one is
-- not. The proof is `proofs/Promises.promised`.
use Rattle.std.specs.Prelude.{ℕ, suc, ◌+◌, ◌≤◌, ◌<◌, ◌≡◌, Bool, true, false, List, leb, ltb, length, Float}
use Rattle.std.specs.Float.{Format}
use Rattle.refusal.specs.Order.{refused_for}
use Rattle.checked.specs.Each.{at}
use Rattle.checked.specs.Finite.{+0}
use Rattle.bits.specs.Bits.{bit}
use Rattle.chunk.specs.declared.Header.{Header}
use Rattle.conformal.specs.Feat.{TCE, ACC, ACM-NEG, NJR, REACH, SPEED-PEAK, PATH-INEFF, STALL, EXT0}
use Rattle.conformal.specs.Rule.{Tables}
use Rattle.conformal.specs.declared.Scores.{Scores}
use Rattle.envelope.specs.declared.FuseConfig.{FuseConfig}
use Rattle.tier1.specs.declared.Tier1Rt.{Tier1Rt}
use Rattle.tier1.specs.declared.Featured.{Featured}
use Rattle.tier1.specs.Rule.{PE-WINDOW, box_dims, overlap, boundary, valid_at}
use Rattle.tier1.specs.Of.{kept_of, manifest_of, features_refusal, features_of}

-- all that a call is given besides its state and scores, and whether a chunk came
pub record Given : Type 0 where
  pub config : FuseConfig
  pub tables : Tables
  pub position : List Float
  pub externals : List Float
  pub came : Bool
  pub header : Header
  pub rows : List Float

module _ (f : Format) (x : Given) (rt : Tier1Rt) (sc : Scores) where
  abbrev pub answer : Featured
  answer = features_of f x.config x.tables x.position x.externals x.came x.header x.rows rt sc

  -- the number of the answer, 0 where the call passes
  abbrev pub number : ℕ
  number = features_refusal f x.config x.tables x.position x.externals x.came x.header x.rows rt sc

  -- the valid bits
  abbrev pub valid_bit : ℕ → Bool
  valid_bit j = bit answer.scores.valid j

  -- the rows that the new chunk and the one before share
  abbrev pub common : ℕ
  common = overlap (kept_of rt) x.header.t_emit x.header.horizon (manifest_of f x.config).dim

  -- whatever is answered
  pub record Always : Type 0 where
    -- on refusal state and scores come back as they went in, whole
    pub refused_whole : (n : ℕ) → number ≡ suc n → answer ≡ record { refusal = refused_for (suc n); rt = rt; scores = sc }
    -- what the features do not replace stays, and so does the trail
    pub z_kept : answer.scores.z ≡ sc.z
    pub s_kept : answer.scores.s ≡ sc.s
    pub fired_kept : answer.scores.fired ≡ sc.fired
    pub trail_kept : answer.rt.trail ≡ rt.trail

  -- of a call that passes
  pub record Passed : Type 0 where
    -- a bit is set exactly where its feature is valid: a held one by its bit, PathIneff by the trail's samples, an external one where it is lent
    pub valid_exactly : (j : ℕ) → j < 12 → valid_bit j ≡ valid_at answer.rt.held_valid rt.trail.len (length x.externals) j
    pub no_further_bit : (j : ℕ) → 12 ≤ j → valid_bit j ≡ false
    pub path_ineff_exactly : valid_bit PATH-INEFF ≡ leb PE-WINDOW rt.trail.len
    -- Stall is never valid and is 0.0, however many samples there are and whatever scores came in
    pub stall_never : valid_bit STALL ≡ false
    pub stall_is_zero : at answer.scores.f STALL ≡ +0
    pub external_bits : (i : ℕ) → i < 4 → valid_bit (EXT0 + i) ≡ ltb i (length x.externals)
    -- where a feature is not valid, f is 0.0
    pub zero_where_not_valid : (j : ℕ) → j < 12 → valid_bit j ≡ false → at answer.scores.f j ≡ +0

  -- of a call that passes with a new chunk: each held feature is valid exactly under its condition, and all are replaced
  pub record Held : Type 0 where
    pub tce_exactly : valid_bit TCE ≡ leb 2 common
    pub acc_exactly : valid_bit ACC ≡ leb 2 common
    pub acm_neg_exactly : valid_bit ACM-NEG ≡ leb 2 x.header.horizon
    pub njr_exactly : valid_bit NJR ≡ leb 4 x.header.horizon
    pub reach_exactly : valid_bit REACH ≡ ltb 0 (box_dims (manifest_of f x.config) x.position)
    pub speed_peak_always : valid_bit SPEED-PEAK ≡ true
    pub held_replaced : answer.rt.held ≡ (boundary f (manifest_of f x.config) (kept_of rt) rt.prev.«data» x.position x.header.t_emit x.header.horizon x.rows).value

-- the same configuration, position and externals, and no chunk
abbrev pub quiet : Given → Header → List Float → Given
quiet x k rows = record {
  config = x.config;
  tables = x.tables;
  position = x.position;
  externals = x.externals;
  came = false;
  header = k;
  rows = rows;
}

-- two calls without a chunk that pass give the same features, whatever else is lent
pub record SameAgain (f : Format) (x : Given) (k l : Header) (rows others : List Float) (rt : Tier1Rt) (sc tc : Scores) : Type 0 where
  pub same_features : (answer f (quiet x l others) rt tc).scores.f ≡ (answer f (quiet x k rows) rt sc).scores.f
  pub same_valid : (answer f (quiet x l others) rt tc).scores.valid ≡ (answer f (quiet x k rows) rt sc).scores.valid

pub record Promised : Type 0 where
  pub always : (f : Format) (x : Given) (rt : Tier1Rt) (sc : Scores) → Always f x rt sc
  pub passed : (f : Format) (x : Given) (rt : Tier1Rt) (sc : Scores) → number f x rt sc ≡ 0 → Passed f x rt sc
  pub held : (f : Format) (x : Given) (rt : Tier1Rt) (sc : Scores) → x.came ≡ true → number f x rt sc ≡ 0 → Held f x rt sc
  -- without a chunk the state stays, so held features change only on a chunk
  pub state_kept : (f : Format) (x : Given) (rt : Tier1Rt) (sc : Scores) → x.came ≡ false → (answer f x rt sc).rt ≡ rt
  pub same_again : (f : Format) (x : Given) (k l : Header) (rows others : List Float) (rt : Tier1Rt) (sc tc : Scores)
      → number f (quiet x k rows) rt sc ≡ 0 → number f (quiet x l others) rt tc ≡ 0 → SameAgain f x k l rows others rt sc tc
