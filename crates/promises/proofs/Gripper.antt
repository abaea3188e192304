-- No other entry reads the mode of the gripper: with another one each rule computes to what it was.
use Prim.Native.Nat.{ℕ}
use mathlib.Core.Path.{◌≡◌, refl}
use mathlib.Core.Bool.{Bool}
use mathlib.Core.List.{List}
use lib.ListN.{length}
use lib.Ieee.{Float, binary64}
use Rattle.chunk.specs.declared.Header.{Header}
use Rattle.conformal.specs.Rule.{Tables}
use Rattle.conformal.specs.declared.Scores.{Scores}
use Rattle.envelope.specs.declared.BrakeKind.{BrakeKind}
use Rattle.envelope.specs.declared.BrakeKind.TheVariants.{PdSecondOrder, FirstOrderDecay, BoundedAccel, JerkLimited, ZeroVelocityHold}
use Rattle.envelope.specs.declared.FuseConfig.{FuseConfig}
use Rattle.envelope.specs.declared.Gripper.{Gripper}
use Rattle.envelope.specs.Promises.{gripped_by}
use Rattle.envelope.specs.Refusals.{sizes_ok, numbers_from, steps_ok}
use Rattle.tier0.specs.Of.{checks_of, action_answer, action_refusal, action_ruling, action_out, chunk_answer, chunk_refusal, chunk_ruling, chunk_out}
use Rattle.tier1.specs.declared.Tier1Rt.{Tier1Rt}
use Rattle.tier1.specs.Of.{manifest_of, features_of, features_refusal, ticked}
use Rattle.brake.specs.Rule.{forecast_by}
use Rattle.brake.specs.Answer.{forecast_refusal, forecast_answer, forecast_slacks}
use Rattle.brake.specs.Towards.{run_short, run_refusal, run_answer, run_slacks, run_position, run_velocity}
use Rattle.promises.specs.Gripper.{GripperUnseen}

module _ (c : FuseConfig) (tabs : Tables) (g : Gripper) where
  action : (p aux prev a : List Float) (room : ℕ) → action_answer binary64 (gripped_by c g) tabs p aux prev a room ≡ action_answer binary64 c tabs p aux prev a room
  unfolding action_answer action_refusal action_ruling sizes_ok numbers_from steps_ok checks_of
  action p aux prev a room = refl

  action_left : (p aux prev a l : List Float) → action_out binary64 (gripped_by c g) tabs p aux prev a l ≡ action_out binary64 c tabs p aux prev a l
  unfolding action_out action_refusal action_ruling sizes_ok numbers_from steps_ok checks_of
  action_left p aux prev a l = refl

  chunk : (p aux rows : List Float) (k : Header) (room : ℕ) → chunk_answer binary64 (gripped_by c g) tabs p aux rows k room ≡ chunk_answer binary64 c tabs p aux rows k room
  unfolding chunk_answer chunk_refusal chunk_ruling sizes_ok numbers_from steps_ok checks_of
  chunk p aux rows k room = refl

  chunk_left : (p aux rows : List Float) (k : Header) (l : List Float) → chunk_out binary64 (gripped_by c g) tabs p aux rows k l ≡ chunk_out binary64 c tabs p aux rows k l
  unfolding chunk_out chunk_refusal chunk_ruling sizes_ok numbers_from steps_ok checks_of
  chunk_left p aux rows k l = refl

  features : (p ext : List Float) (there : Bool) (k : Header) (rows : List Float) (rt : Tier1Rt) (sc : Scores) → features_of binary64 (gripped_by c g) tabs p ext there k rows rt sc ≡ features_of binary64 c tabs p ext there k rows rt sc
  unfolding features_of features_refusal ticked manifest_of sizes_ok numbers_from steps_ok
  features p ext there k rows rt sc = refl

  planned : (p v rows : List Float) (k : Header) (from : ℕ) (b : BrakeKind) → forecast_by binary64 (gripped_by c g) p v rows k from b ≡ forecast_by binary64 c p v rows k from b
  unfolding forecast_by
  planned p v rows k from (PdSecondOrder kp kv dt) = refl
  planned p v rows k from (FirstOrderDecay kp kv dt) = refl
  planned p v rows k from (BoundedAccel kp kv dt) = refl
  planned p v rows k from (JerkLimited kp kv dt) = refl
  planned p v rows k from (ZeroVelocityHold kp kv dt) = refl

  forecast : (p v rows : List Float) (k : Header) (from room : ℕ) → forecast_answer binary64 (gripped_by c g) tabs p v rows k from room ≡ forecast_answer binary64 c tabs p v rows k from room
  unfolding forecast_answer forecast_refusal sizes_ok numbers_from steps_ok
  forecast p v rows k from room = rw (planned p v rows k from c.brake.kind)

  forecast_left : (p v rows : List Float) (k : Header) (from : ℕ) (l : List Float) → forecast_slacks binary64 (gripped_by c g) tabs p v rows k from l ≡ forecast_slacks binary64 c tabs p v rows k from l
  unfolding forecast_slacks forecast_refusal sizes_ok numbers_from steps_ok
  forecast_left p v rows k from l = rw (planned p v rows k from c.brake.kind)

  run : (a p v : List Float) (n room : ℕ) → run_answer binary64 (gripped_by c g) tabs a p v n room ≡ run_answer binary64 c tabs a p v n room
  unfolding run_answer run_refusal run_short sizes_ok numbers_from steps_ok
  run a p v n room = refl

  run_left : (a p v : List Float) (n : ℕ) (l : List Float)
      → (run_slacks binary64 (gripped_by c g) tabs a p v n l ≡ run_slacks binary64 c tabs a p v n l)
      × (run_position binary64 (gripped_by c g) tabs a p v n (length l) ≡ run_position binary64 c tabs a p v n (length l))
      × (run_velocity binary64 (gripped_by c g) tabs a p v n (length l) ≡ run_velocity binary64 c tabs a p v n (length l))
  unfolding run_slacks run_position run_velocity run_refusal run_short sizes_ok numbers_from steps_ok
  run_left a p v n l = (refl, refl, refl)

pub mode_unseen : GripperUnseen
mode_unseen c tabs g = record {
  by_check_action = action c tabs g;
  left_by_check_action = action_left c tabs g;
  by_check_chunk = chunk c tabs g;
  left_by_check_chunk = chunk_left c tabs g;
  by_features = features c tabs g;
  by_brake_feasible = forecast c tabs g;
  left_by_brake_feasible = forecast_left c tabs g;
  by_run_towards = run c tabs g;
  left_by_run_towards = run_left c tabs g;
}
