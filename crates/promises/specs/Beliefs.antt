-- Four beliefs that do not hold (docs/TRAINEES.md), each with what holds instead, said of the entries' answers; beside the first, what is easily mixed up with it. The proofs are `proofs/Beliefs.antt`.
use Rattle.tier0.specs.Refusals.{passed_with}
use Rattle.std.specs.Prelude.{ℕ, suc, ◌<◌, ◌≡◌, Bool, true, false, List, Float, Err}
use Rattle.std.specs.Float.Ieee.{lt, mul}
use Rattle.std.specs.Float.{binary64}
use Rattle.refusal.specs.Order.{refusal, refused_for}
use Rattle.checked.specs.Finite.{+0}
use Rattle.fmath.specs.Norm.{dist}
use Rattle.workspace.specs.declared.WallMasks.{WallMasks}
use Rattle.chunk.specs.declared.Header.{Header}
use Rattle.conformal.specs.Rule.{Tables}
use Rattle.envelope.specs.Refusals.{sizes_ok, numbers_ok, steps_ok, config_judged}
use Rattle.envelope.specs.Slots.{counted, zone_at, zone_with}
use Rattle.envelope.specs.Promises.{absent_by}
use Rattle.envelope.specs.declared.AbsentCamera.{AbsentCamera}
use Rattle.envelope.specs.declared.AbsentCamera.TheVariants as absent
use Rattle.envelope.specs.declared.FuseConfig.{FuseConfig}
use Rattle.tier0.specs.Rule.{CONTACT}
use Rattle.tier0.specs.Chunk.{some_longer}
use Rattle.tier0.specs.Of.{action_answer, chunk_answer}
use Rattle.tier0.specs.Promises.{trips_in, raised, before_first, ChunkWithin, ActionWithin, NoZones, ZoneUnseen, AsUnarmed}
use Rattle.rollout.specs.Plant.{Gains}
use Rattle.brake.specs.Answer.{forecast_answer, brake_answer, hold_answer, forecast_with}
use Rattle.brake.specs.Promises.{Call, SecondOrder, N, slack_after, answer}
use Rattle.brake.specs.Towards.{run_answer}

-- "An empty contact box means slow everywhere": with no zone configured, under either choice for an absent camera, CONTACT is never raised, and a call answers and writes what it does with CONTACT unarmed
pub record EmptyBoxSlowsNothing : Type 0 where
  pub chunk_not_raised : (c : FuseConfig) (choice : AbsentCamera) (tabs : Tables) → NoZones c.zones → (p aux rows : List Float) (k : Header) (room : ℕ) → raised CONTACT (trips_in (chunk_answer binary64 (absent_by c choice) tabs p aux rows k room)) ≡ false
  pub action_not_raised : (c : FuseConfig) (choice : AbsentCamera) (tabs : Tables) → NoZones c.zones → (p aux prev a : List Float) (room : ℕ) → raised CONTACT (trips_in (action_answer binary64 (absent_by c choice) tabs p aux prev a room)) ≡ false
  pub as_unarmed : (c : FuseConfig) (choice : AbsentCamera) (tabs : Tables) → NoZones c.zones → (p aux : List Float) → AsUnarmed binary64 tabs (absent_by c choice) p aux

-- beside it: a zone whose camera is silent is slow, under Slow. CONTACT is raised where some step exceeds the zone's speed x dt, and where it is the only zone exactly then. It arms tier 0's leash (`LeashTold`), by which the rows are pulled (`chunk_moved`, `action_moved`)
pub record SilentCameraIsSlow (c : FuseConfig) (tabs : Tables) (p aux : List Float) (speed : Float) : Type 0 where
  pub chunk_raised :
      (rows : List Float) (k : Header) (room trips dims : ℕ) (peak : Float) (walls : WallMasks)
      → chunk_answer binary64 c tabs p aux rows k room ≡ passed_with trips dims peak walls
      → some_longer binary64 (before_first binary64 c p aux rows) rows c.dim (mul binary64 speed c.limits.dt) k.horizon ≡ true → raised CONTACT trips ≡ true
  pub action_raised :
      (prev a : List Float) (room trips dims : ℕ) (peak : Float) (walls : WallMasks)
      → action_answer binary64 c tabs p aux prev a room ≡ passed_with trips dims peak walls
      → lt (mul binary64 speed c.limits.dt) (dist binary64 a prev c.dim).value ≡ true → raised CONTACT trips ≡ true
  pub only_zone_chunk :
      c.zones.count ≡ 1 → (rows : List Float) (k : Header) (room trips dims : ℕ) (peak : Float) (walls : WallMasks)
      → chunk_answer binary64 c tabs p aux rows k room ≡ passed_with trips dims peak walls
      → raised CONTACT trips ≡ some_longer binary64 (before_first binary64 c p aux rows) rows c.dim (mul binary64 speed c.limits.dt) k.horizon
  pub only_zone_action :
      c.zones.count ≡ 1 → (prev a : List Float) (room trips dims : ℕ) (peak : Float) (walls : WallMasks)
      → action_answer binary64 c tabs p aux prev a room ≡ passed_with trips dims peak walls
      → raised CONTACT trips ≡ lt (mul binary64 speed c.limits.dt) (dist binary64 a prev c.dim).value

abbrev pub SilentCameraSlows : Type 0
SilentCameraSlows = (c : FuseConfig) (tabs : Tables) (k : ℕ) (p aux : List Float) (radius speed : Float) (i j : ℕ) → c.absent_camera ≡ absent.Slow → ZoneUnseen c.armed c.zones k p aux radius speed i j → SilentCameraIsSlow c tabs p aux speed

-- "Two arms may share camera channels": where 1, 2 and 3 do not apply, one channel for both coordinates of a zone that counts is refused with 4 by the configuration's own judging, the checks, the forecast, a run under one setpoint, brake and hold; and so are two zones of one arm that name the same channels in the same order
pub record ChannelsAre4 (c : FuseConfig) (tabs : Tables) : Type 0 where
  pub configuration_is_4 : refusal (config_judged binary64 c tabs) ≡ 4
  pub chunk_is_4 : (p aux rows : List Float) (k : Header) (room : ℕ) → chunk_answer binary64 c tabs p aux rows k room ≡ Err (refused_for 4)
  pub action_is_4 : (p aux prev a : List Float) (room : ℕ) → action_answer binary64 c tabs p aux prev a room ≡ Err (refused_for 4)
  pub forecast_is_4 : (p v rows : List Float) (k : Header) (from room : ℕ) → forecast_answer binary64 c tabs p v rows k from room ≡ Err (refused_for 4)
  pub run_is_4 : (a p v : List Float) (n room : ℕ) → run_answer binary64 c tabs a p v n room ≡ Err (refused_for 4)
  pub brake_is_4 : (p v last : List Float) (room : ℕ) → brake_answer binary64 c tabs p v last room ≡ Err (refused_for 4)
  pub hold_is_4 : (p last : List Float) (room : ℕ) → hold_answer binary64 c tabs p last room ≡ Err (refused_for 4)

abbrev pub OneChannelIsRefused : Type 0
OneChannelIsRefused =
    (c : FuseConfig) (tabs : Tables) (k : ℕ) (radius speed : Float) (i : ℕ) → k < counted c.zones → zone_at c.zones k ≡ zone_with i i radius speed
    → sizes_ok c ≡ true → numbers_ok binary64 c tabs ≡ true → steps_ok c ≡ true → ChannelsAre4 c tabs

abbrev pub SamePairIsRefused : Type 0
SamePairIsRefused =
    (c : FuseConfig) (tabs : Tables) (m k : ℕ) (radius speed wide fast : Float) (i j : ℕ) → m < k → k < counted c.zones → zone_at c.zones m ≡ zone_with i j radius speed → zone_at c.zones k ≡ zone_with i j wide fast
    → sizes_ok c ≡ true → numbers_ok binary64 c tabs ≡ true → steps_ok c ≡ true → ChannelsAre4 c tabs

-- "Touching a limit trips it": where no limit is strictly exceeded nothing is raised, however many are touched
pub record TouchingTripsNothing : Type 0 where
  pub chunk_raises_nothing : (c : FuseConfig) (tabs : Tables) (p aux rows : List Float) (k : Header) (room : ℕ) → ChunkWithin binary64 c p aux rows k.horizon → trips_in (chunk_answer binary64 c tabs p aux rows k room) ≡ 0
  pub action_raises_nothing : (c : FuseConfig) (tabs : Tables) (p aux prev a : List Float) (room : ℕ) → ActionWithin binary64 c p aux prev a → trips_in (action_answer binary64 c tabs p aux prev a room) ≡ 0

-- "The stopping forecast inspects where the arm stands now": an accepted one is feasible exactly when no slack after k substeps is negative, with k at least 1
pub record StartIsNotInspected : Type 0 where
  pub feasible_only_inside : (x : Call) (g : Gains) → SecondOrder x g → (n : ℕ) (margin stop : Float) → answer x ≡ forecast_with n margin true stop → (k : ℕ) → k < N x → lt (slack_after x g (suc k)) +0 ≡ false
  pub inside_is_feasible : (x : Call) (g : Gains) → SecondOrder x g → (n : ℕ) (margin : Float) (feasible : Bool) (stop : Float) → answer x ≡ forecast_with n margin feasible stop
      → ((k : ℕ) → k < N x → lt (slack_after x g (suc k)) +0 ≡ false) → feasible ≡ true
