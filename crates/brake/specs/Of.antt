-- The rules at the declared structs, and what the contracts of the private functions cite.
use Rattle.std.specs.Prelude.{ℕ, suc, ◌*◌, ◌≤◌, ◌≡◌, true, false, List, Float}
use Rattle.std.specs.Float.{Format}
use Rattle.chunk.specs.declared.Header.{Header}
use Rattle.envelope.specs.Derive.{derived}
use Rattle.envelope.specs.Steps.{substeps_in}
use Rattle.envelope.specs.declared.ActionKind.{ActionKind}
use Rattle.envelope.specs.declared.BrakeKind.{BrakeKind}
use Rattle.envelope.specs.declared.BrakeKind.TheVariants.{PdSecondOrder, FirstOrderDecay, BoundedAccel, JerkLimited, ZeroVelocityHold}
use Rattle.envelope.specs.declared.BrakeModel.{BrakeModel}
use Rattle.envelope.specs.declared.Derived.{Derived}
use Rattle.envelope.specs.declared.FuseConfig.{FuseConfig}
use Rattle.envelope.specs.declared.Gripper.{Gripper}
use Rattle.workspace.specs.declared.Shape.{Shape}
use Rattle.workspace.specs.declared.Workspace.{Workspace}
use Rattle.course.specs.declared.Course.{Course}
use Rattle.course.specs.declared.Plant.{Plant}
use Rattle.course.specs.declared.Run.{Run}
use Rattle.course.specs.Forecast.{Forecast, fine, slack_at, leading_in}
use Rattle.course.specs.Rows.{rows_left}
use Rattle.checked.specs.declared.Reckoned.{Reckoned}
use Rattle.checked.specs.declared.Row.{Row}
use Rattle.checked.specs.Each.{all}
use Rattle.checked.specs.Least.{least}
use Rattle.checked.specs.Of.{reckoned_from}
use Rattle.checked.specs.Row.{eight}
use Rattle.rollout.specs.Of.{leg_run}
use Rattle.brake.specs.Rule.{live, sent_row}
use Rattle.brake.specs.Towards.{leg_at}

abbrev pub workspace_from : Shape → Derived → Workspace
workspace_from s d = record { shape = s; lo = d.box_lo; hi = d.box_hi }

abbrev pub workspace_for : Format → FuseConfig → Workspace
workspace_for f c = workspace_from c.shape (derived f c)

abbrev pub course_for : FuseConfig → Header → ℕ → Course
course_for c k from = record {
  live = live c;
  horizon = k.horizon;
  dim = k.dim;
  from = from;
  commit = c.brake.commit;
  brake = c.brake.brake_steps;
  per = c.brake.substeps;
}

abbrev pub start_for : FuseConfig → List Float → List Float → Plant
start_for c p v = record { p = eight p (live c); v = eight v (live c) }

-- a row that was made, as it is sent
abbrev pub row_sent_for : Gripper → ActionKind → ℕ → List Float → Row → ℕ → Row
row_sent_for g k pos-dim last row n = record { at = sent_row g k pos-dim last row.at n; sound = row.sound }

-- how many entries a forecast has: N, or one for the start and one for each row
abbrev pub count_for : BrakeModel → BrakeKind → ℕ → ℕ
count_for b (PdSecondOrder kp kv dt) from = substeps_in (rows_left b.commit from) b.brake_steps b.substeps
count_for b (FirstOrderDecay kp kv dt) from = suc (rows_left b.commit from).0
count_for b (BoundedAccel kp kv dt) from = suc (rows_left b.commit from).0
count_for b (JerkLimited kp kv dt) from = suc (rows_left b.commit from).0
count_for b (ZeroVelocityHold kp kv dt) from = suc (rows_left b.commit from).0

-- a run and the stop distance at its end come to a forecast: its entries up to the first that isn't finite, all of them where it is sound, and where it is not
-- although they are finite, a stop distance that is not
pub record Settles (t : Forecast) (run : Run) (stop : Reckoned) : Type 0 where
  pub written : run.done ≡ leading_in t
  pub least : run.margin ≡ least (slack_at t) (leading_in t)
  pub whole : run.sound ≡ true → all (fine t) t.count ≡ true
  pub stops : run.sound ≡ true → stop ≡ reckoned_from t.stop
  pub unsound : run.sound ≡ false → all (fine t) t.count ≡ true → t.stop.sound ≡ false

-- what is known of a call where nothing is refused: rows that are all there and as wide as the configuration says, and room for the entries
pub record Planned (c : FuseConfig) (len : ℕ) (k : Header) (from room : ℕ) : Type 0 where
  pub narrow : c.dim ≤ 8
  pub moves : 1 ≤ live c
  pub wide : k.dim ≡ c.dim
  pub rowed : 1 ≤ k.horizon
  pub there : len ≡ k.horizon * k.dim
  pub parted : 1 ≤ c.brake.substeps.0
  pub few : count_for c.brake c.brake.kind from ≤ 4096
  pub space : count_for c.brake c.brake.kind from ≤ room

-- n substeps towards a, from a position and a velocity, as a run
abbrev pub run_for : Format → FuseConfig → List Float → List Float → List Float → ℕ → Run
run_for f c a p v n = leg_run f (leg_at f c a) (start_for c p v) n

-- what is known of its call where nothing is refused: eight axes at most and one or more that move, a setpoint, a position and a velocity that have them, and room for the entries
pub record Lends (c : FuseConfig) (a p v n room : ℕ) : Type 0 where
  pub narrow : c.dim ≤ 8
  pub moves : 1 ≤ live c
  pub aims : c.dim ≤ a
  pub places : c.pos_dim ≤ p
  pub rates : c.pos_dim ≤ v
  pub space : n ≤ room
