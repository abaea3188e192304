-- A refusal changes nothing: what an entry would write or give back is what it was, save that a forecast or a run refused with 13 keeps the entries before its place (brake's
-- `Demand3`, and `StoppedAt`). The proofs are `proofs/Refused.antt`.
use Rattle.std.specs.Prelude.{ℕ, ◌≡◌, Bool, List, length, Float}
use Rattle.std.specs.Float.{binary64}
use Rattle.chunk.specs.declared.ChunkBuf.{ChunkBuf}
use Rattle.chunk.specs.Of.{fill_of, clear_of as chunk_clear_of}
use Rattle.window.specs.declared.Trail.{Trail}
use Rattle.window.specs.Of.{push_of, clear_of}
use Rattle.chunk.specs.declared.Header.{Header}
use Rattle.conformal.specs.declared.Calibration.{Calibration}
use Rattle.conformal.specs.declared.Scores.{Scores}
use Rattle.conformal.specs.Answer.{standardised, aggregated}
use Rattle.conformal.specs.Rule.{Tables}
use Rattle.envelope.specs.declared.FuseConfig.{FuseConfig}
use Rattle.tier0.specs.Of.{action_answer, action_out, chunk_answer, chunk_out}
use Rattle.tier1.specs.declared.Tier1Rt.{Tier1Rt}
use Rattle.tier1.specs.Of.{features_of, reset_of}
use Rattle.brake.specs.Answer.{forecast_answer, forecast_slacks, brake_answer, brake_output, hold_answer, hold_output}
use Rattle.brake.specs.Towards.{run_answer, run_slacks, run_position, run_velocity}
use Rattle.lictor.specs.Answer.{check_number, forecast_number, ran_number, sent_number}

-- a number that refuses
abbrev pub Refuses : ℕ → Type 0
Refuses n = n ≡ 0 → ⊥

pub record RefusalChangesNothing : Type 0 where
  pub after_fill : (b : ChunkBuf) (k : Header) (l : List Float) → Refuses (fill_of b k l).number → (fill_of b k l).buf ≡ b
  pub after_chunk_clear : (b : ChunkBuf) → Refuses (chunk_clear_of b).number → (chunk_clear_of b).buf ≡ b
  pub after_push : (t : Trail) (p : List Float) (d : ℕ) → Refuses (push_of t p d).number → (push_of t p d).trail ≡ t
  pub after_clear : (t : Trail) → Refuses (clear_of t).number → (clear_of t).trail ≡ t
  pub after_standardise : (cal : Calibration) (tabs : Tables) (bin : ℕ) (sc : Scores) → Refuses (standardised binary64 cal tabs bin sc).refusal.number → (standardised binary64 cal tabs bin sc).scores ≡ sc
  pub after_aggregate : (cal : Calibration) (tabs : Tables) (sc : Scores) → Refuses (aggregated cal tabs sc).refusal.number → (aggregated cal tabs sc).scores ≡ sc
  pub after_check_chunk : (c : FuseConfig) (tabs : Tables) (p aux rows : List Float) (k : Header) (l : List Float) → Refuses (check_number (chunk_answer binary64 c tabs p aux rows k (length l))) → chunk_out binary64 c tabs p aux rows k l ≡ l
  pub after_check_action : (c : FuseConfig) (tabs : Tables) (p aux prev a l : List Float) → Refuses (check_number (action_answer binary64 c tabs p aux prev a (length l))) → action_out binary64 c tabs p aux prev a l ≡ l
  pub after_features : (c : FuseConfig) (tabs : Tables) (p ext : List Float) (there : Bool) (k : Header) (rows : List Float) (rt : Tier1Rt) (sc : Scores) → Refuses (features_of binary64 c tabs p ext there k rows rt sc).refusal.number
      → ((features_of binary64 c tabs p ext there k rows rt sc).rt ≡ rt) × ((features_of binary64 c tabs p ext there k rows rt sc).scores ≡ sc)
  pub after_reset : (rt : Tier1Rt) → Refuses (reset_of rt).refusal.number → (reset_of rt).rt ≡ rt
  pub after_brake_feasible : (c : FuseConfig) (tabs : Tables) (p v rows : List Float) (k : Header) (from : ℕ) (l : List Float) → Refuses (forecast_number (forecast_answer binary64 c tabs p v rows k from (length l)))
      → (forecast_number (forecast_answer binary64 c tabs p v rows k from (length l)) ≡ 13 → ⊥) → forecast_slacks binary64 c tabs p v rows k from l ≡ l
  pub after_run_towards : (c : FuseConfig) (tabs : Tables) (a p v : List Float) (n : ℕ) (l : List Float) → Refuses (ran_number (run_answer binary64 c tabs a p v n (length l)))
      → (run_position binary64 c tabs a p v n (length l) ≡ p) × (run_velocity binary64 c tabs a p v n (length l) ≡ v) × ((ran_number (run_answer binary64 c tabs a p v n (length l)) ≡ 13 → ⊥) → run_slacks binary64 c tabs a p v n l ≡ l)
  pub after_brake_action : (c : FuseConfig) (tabs : Tables) (p v last l : List Float) → Refuses (sent_number (brake_answer binary64 c tabs p v last (length l))) → brake_output binary64 c tabs p v last l ≡ l
  pub after_hold_action : (c : FuseConfig) (tabs : Tables) (p last l : List Float) → Refuses (sent_number (hold_answer binary64 c tabs p last (length l))) → hold_output binary64 c tabs p last l ≡ l
