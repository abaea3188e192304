-- No entry accepts a configuration whose calibration, its flag set, names Stall. The proof is `proofs/Stall.accepted_names_no_stall`. Of the configuration's own
-- judging envelope's `Promises.names_no_stall` says so, and of module 8's entries, which take the calibration itself, conformal's `Promises.WithoutStall`.
use Rattle.std.specs.Prelude.{ℕ, ◌≡◌, Bool, true, List, Float}
use Rattle.std.specs.Float.{binary64}
use Rattle.chunk.specs.declared.Header.{Header}
use Rattle.conformal.specs.Promises.{NamesNoStall}
use Rattle.conformal.specs.Rule.{Tables}
use Rattle.conformal.specs.declared.Scores.{Scores}
use Rattle.envelope.specs.declared.FuseConfig.{FuseConfig}
use Rattle.tier0.specs.Of.{action_answer, chunk_answer}
use Rattle.tier1.specs.declared.Tier1Rt.{Tier1Rt}
use Rattle.tier1.specs.Of.{features_of}
use Rattle.brake.specs.Answer.{forecast_answer, brake_answer, hold_answer}
use Rattle.brake.specs.Towards.{run_answer}
use Rattle.lictor.specs.Answer.{check_number, forecast_number, ran_number, sent_number}

-- whichever entry accepts the configuration
pub record NamedNowhere (c : FuseConfig) (tabs : Tables) : Type 0 where
  pub by_check_action : (p aux prev a : List Float) (room : ℕ) → check_number (action_answer binary64 c tabs p aux prev a room) ≡ 0 → NamesNoStall c.calib
  pub by_check_chunk : (p aux rows : List Float) (k : Header) (room : ℕ) → check_number (chunk_answer binary64 c tabs p aux rows k room) ≡ 0 → NamesNoStall c.calib
  pub by_features : (p ext : List Float) (there : Bool) (k : Header) (rows : List Float) (rt : Tier1Rt) (sc : Scores) → (features_of binary64 c tabs p ext there k rows rt sc).refusal.number ≡ 0 → NamesNoStall c.calib
  pub by_brake_feasible : (p v rows : List Float) (k : Header) (from room : ℕ) → forecast_number (forecast_answer binary64 c tabs p v rows k from room) ≡ 0 → NamesNoStall c.calib
  pub by_run_towards : (a p v : List Float) (n room : ℕ) → ran_number (run_answer binary64 c tabs a p v n room) ≡ 0 → NamesNoStall c.calib
  pub by_brake_action : (p v last : List Float) (room : ℕ) → sent_number (brake_answer binary64 c tabs p v last room) ≡ 0 → NamesNoStall c.calib
  pub by_hold_action : (p last : List Float) (room : ℕ) → sent_number (hold_answer binary64 c tabs p last room) ≡ 0 → NamesNoStall c.calib

abbrev pub AcceptedNamesNoStall : Type 0
AcceptedNamesNoStall = (c : FuseConfig) (tabs : Tables) → c.calibrated ≡ true → NamedNowhere c tabs
