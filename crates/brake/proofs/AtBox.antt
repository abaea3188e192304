-- A forecast with a box: nothing is computed for the setpoint, so that it is not judged, and the rest is as a guard has it that knows no other shape.
use Prim.Native.Nat.{ℕ, suc}
use mathlib.Core.Path.{◌≡◌, refl, ap, ◌∙◌}
use mathlib.Core.Bool.{Bool, true, false, ◌&&◌}
use mathlib.Core.List.{List}
use lib.Dec.{ltb}
use lib.Ieee.{Float, binary64}
use Rattle.std.specs.Prelude.{if◌then◌else◌}
use Rattle.checked.specs.Checked.{Checked, pure}
use Rattle.workspace.specs.declared.Shape.TheVariants.{Box}
use Rattle.workspace.specs.Rule.{Walls, inward, slack}
use Rattle.workspace.specs.AtBox as atBox
use Rattle.workspace.proofs.Promises as shapes
use Rattle.rollout.specs.Plant.{Gains, substep}
use Rattle.rollout.specs.Rule.{followed, row_at, setpoint, aimed, aim, after, entry, stop_distance, stop}
use Rattle.brake.specs.Rule.{live, walls_at}
use Rattle.brake.specs.Promises.{Call, N, task, plant_after, finite_in, rows_before, setpoint_finite, BoxForecast}

module _ (x : Call) (g : Gains) (box : x.config.shape ≡ Box) where
  abbrev low : List Float
  low = (walls_at binary64 x.config).lo

  abbrev high : List Float
  high = (walls_at binary64 x.config).hi

  boxed_walls : walls_at binary64 x.config ≡ atBox.box low high
  boxed_walls = λ i. record { shape = box i; lo = low; hi = high }

  box_clamps : setpoint binary64 (task x g) ≡ atBox.box_inward low high (followed binary64 (task x g) (rows_before x)).p (live x.config)
  unfolding setpoint
  box_clamps = ap (λ (w : Walls). inward binary64 w (followed binary64 (task x g) (rows_before x)).p (live x.config)) boxed_walls ∙ ((shapes.promised).at_a_box binary64 low high).inward_as_before _ _

  pub box_setpoint : setpoint_finite x g ≡ true
  box_setpoint = ap (λ (y : Checked (List Float)). y.sound) box_clamps

  box_slack_lem : (p : List Float) → slack binary64 (walls_at binary64 x.config) p (live x.config) ≡ atBox.box_slack binary64 low high p (live x.config)
  box_slack_lem p = ap (λ (w : Walls). slack binary64 w p (live x.config)) boxed_walls ∙ ((shapes.promised).at_a_box binary64 low high).slack_as_before p (live x.config)

  aims_sound : (k : ℕ) → (aimed binary64 (task x g) k).sound ≡ true
  unfolding aimed
  aims_sound k = go (ltb k (rows_before x))
    where
      go : (b : Bool) → (if b then pure (row_at (task x g) k) else setpoint binary64 (task x g)).sound ≡ true
      go true = refl
      go false = box_setpoint

  box_substep : (k : ℕ) → finite_in x g k ≡ ((substep binary64 g (aim binary64 (task x g) k) (live x.config) (plant_after x g k)).sound && (atBox.box_slack binary64 low high (plant_after x g (suc k)).p (live x.config)).sound)
  unfolding entry after
  box_substep k = rw (aims_sound k, box_slack_lem (plant_after x g (suc k)).p)

  box_stop : stop binary64 (task x g) ≡ stop_distance binary64 (plant_after x g 0) (plant_after x g (N x)) (live x.config)
  unfolding stop after
  box_stop = rw box_setpoint

  pub box_forecast : BoxForecast x g
  box_forecast = record {
    clamped_setpoint = box_clamps;
    substep_as_before = box_substep;
    slack_as_before = λ k. ap (λ (y : Checked Float). y.value) (box_slack_lem (plant_after x g k).p);
    stop_as_before = box_stop;
  }
