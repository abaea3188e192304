-- One axis at speed 1 between -4 and 4, and one row of velocity 2: the start leaves 2.5, the row touches the wall, and the arm may travel 6.
use Rattle.std.specs.Prelude.{◌≡◌, refl, true, false, [], ◌∷◌, pos, negsuc}
use Rattle.std.specs.Float.{fin, binary64}
use Rattle.std.specs.Float.Ieee.{round, of_int, add, sub, mul, div, lt, le, eq}
use Rattle.root.specs.Root.{floor_root, near_root, half, root_exponent, scaled, number, root_of}
use Rattle.checked.specs.Constants.{1! }
use Rattle.checked.specs.Each.{all, over, table}
use Rattle.checked.specs.Finite.{finite, +0}
use Rattle.checked.specs.Least.{lesser, least}
use Rattle.checked.specs.Checked.{sum_from, each, least_of}
use Rattle.fmath.specs.Norm.{square_at, norm, squared_gap, dist}
use Rattle.chunk.specs.Rule.{row_of}
use Rattle.envelope.specs.declared.ActionKind.TheVariants.{JointVelocity}
use Rattle.envelope.specs.declared.BrakeKind.TheVariants.{BoundedAccel}
use Rattle.workspace.specs.declared.Shape.TheVariants.{Box}
use Rattle.workspace.specs.Rule.{between_r, slack_in_r}
use Rattle.course.specs.Forecast.{slack_at, leading, place_of, margin_of, feasible_of}
use Rattle.stopping.specs.Rule.{Task, ratio, ramp, d_stop, radius, commanded, command, moved, step, reaction, after, entry, stop_distance, forecast}

abbrev sample : Task
sample = record {
  arm = record { kind = JointVelocity; brake = BoundedAccel 1! 1! 1!; dt = 1!; a_max = 1!; j_max = 1! };
  react_ticks_of = 1;
  walls = record { shape = Box; lo = fin true 1 (pos 2) ∷ []; hi = fin false 1 (pos 2) ∷ [] };
  n = 1;
  start = record { p = +0 ∷ []; v = 1! ∷ [] };
  rows = fin false 1 (pos 1) ∷ [];
  horizon = 1;
  dim = 1;
  from = 0;
  commit = record { 0 = 1 };
}

touching : (table (slack_at (forecast binary64 sample)) (forecast binary64 sample).count ≡ fin false 5 (negsuc 0) ∷ +0 ∷ [])
    × (place_of (forecast binary64 sample) ≡ 0)
    × (feasible_of (forecast binary64 sample) ≡ true)
    × ((forecast binary64 sample).stop.value ≡ fin false 3 (pos 1))
unfolding table entry stop_distance place_of margin_of all least lesser leading slack_in_r least_of between_r after command commanded step moved each radius d_stop ramp ratio reaction of_int round row_of over norm square_at dist squared_gap sum_from root_of near_root floor_root scaled root_exponent half number lt le eq add sub mul div finite
touching = (refl, refl, refl, refl)
