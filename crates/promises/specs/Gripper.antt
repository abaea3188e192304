-- The mode of the gripper is brake's and hold's alone: each other entry that takes a configuration answers, and leaves what it is lent, alike in both modes. The proof is
-- `proofs/Gripper.mode_unseen`. Of the configuration's own judging, and of what is derived from it, envelope's `Promises.either_mode` and `same_derived` say so.
use Rattle.std.specs.Prelude.{ℕ, ◌≡◌, Bool, List, length, Float}
use Rattle.std.specs.Float.{binary64}
use Rattle.chunk.specs.declared.Header.{Header}
use Rattle.conformal.specs.Rule.{Tables}
use Rattle.conformal.specs.declared.Scores.{Scores}
use Rattle.envelope.specs.declared.FuseConfig.{FuseConfig}
use Rattle.envelope.specs.declared.Gripper.{Gripper}
use Rattle.envelope.specs.Promises.{gripped_by}
use Rattle.tier0.specs.Of.{action_answer, action_out, chunk_answer, chunk_out}
use Rattle.tier1.specs.declared.Tier1Rt.{Tier1Rt}
use Rattle.tier1.specs.Of.{features_of}
use Rattle.brake.specs.Answer.{forecast_answer, forecast_slacks}
use Rattle.brake.specs.Towards.{run_answer, run_slacks, run_position, run_velocity}

pub record ModeUnseen (c : FuseConfig) (tabs : Tables) (g : Gripper) : Type 0 where
  pub by_check_action : (p aux prev a : List Float) (room : ℕ) → action_answer binary64 (gripped_by c g) tabs p aux prev a room ≡ action_answer binary64 c tabs p aux prev a room
  pub left_by_check_action : (p aux prev a l : List Float) → action_out binary64 (gripped_by c g) tabs p aux prev a l ≡ action_out binary64 c tabs p aux prev a l
  pub by_check_chunk : (p aux rows : List Float) (k : Header) (room : ℕ) → chunk_answer binary64 (gripped_by c g) tabs p aux rows k room ≡ chunk_answer binary64 c tabs p aux rows k room
  pub left_by_check_chunk : (p aux rows : List Float) (k : Header) (l : List Float) → chunk_out binary64 (gripped_by c g) tabs p aux rows k l ≡ chunk_out binary64 c tabs p aux rows k l
  pub by_features : (p ext : List Float) (there : Bool) (k : Header) (rows : List Float) (rt : Tier1Rt) (sc : Scores) → features_of binary64 (gripped_by c g) tabs p ext there k rows rt sc ≡ features_of binary64 c tabs p ext there k rows rt sc
  pub by_brake_feasible : (p v rows : List Float) (k : Header) (from room : ℕ) → forecast_answer binary64 (gripped_by c g) tabs p v rows k from room ≡ forecast_answer binary64 c tabs p v rows k from room
  pub left_by_brake_feasible : (p v rows : List Float) (k : Header) (from : ℕ) (l : List Float) → forecast_slacks binary64 (gripped_by c g) tabs p v rows k from l ≡ forecast_slacks binary64 c tabs p v rows k from l
  pub by_run_towards : (a p v : List Float) (n room : ℕ) → run_answer binary64 (gripped_by c g) tabs a p v n room ≡ run_answer binary64 c tabs a p v n room
  pub left_by_run_towards : (a p v : List Float) (n : ℕ) (l : List Float)
      → (run_slacks binary64 (gripped_by c g) tabs a p v n l ≡ run_slacks binary64 c tabs a p v n l)
      × (run_position binary64 (gripped_by c g) tabs a p v n (length l) ≡ run_position binary64 c tabs a p v n (length l))
      × (run_velocity binary64 (gripped_by c g) tabs a p v n (length l) ≡ run_velocity binary64 c tabs a p v n (length l))

abbrev pub GripperUnseen : Type 0
GripperUnseen = (c : FuseConfig) (tabs : Tables) (g : Gripper) → ModeUnseen c tabs g
