-- Two halves by computation: two substeps, split after the first, whose least slack is a zero of either sign by the order; a substep whose place moves on with the half before it; and a
-- forecast that may not be split where its rows end, since a second one makes another setpoint.
use Rattle.std.specs.Prelude.{ℕ, ◌≡◌, refl, true, false, [], ◌∷◌, pos, negsuc, Float}
use Rattle.std.specs.Float.{fin, binary64}
use Rattle.std.specs.Float.Ieee.{round, add, sub, mul, lt, le, eq}
use Rattle.checked.specs.Constants.{1!, 2! }
use Rattle.checked.specs.Each.{all, table, over}
use Rattle.checked.specs.Finite.{finite, +0}
use Rattle.checked.specs.Least.{lesser, least}
use Rattle.checked.specs.Checked.{least_of}
use Rattle.fmath.specs.Clamp.{clamped}
use Rattle.chunk.specs.Rule.{row_of}
use Rattle.workspace.specs.declared.Shape.TheVariants.{Box}
use Rattle.workspace.specs.Rule.{between, onto_disc, inward, slack_in}
use Rattle.course.specs.Plant.{State}
use Rattle.course.specs.Forecast.{leading, place_of, slack_at, margin_of}
use Rattle.rollout.specs.Plant.{axis, substep}
use Rattle.rollout.specs.Rule.{Task, followed, setpoint, aimed, after, entry, forecast}
use Rattle.rollout.specs.Leg.{Leg, stepped, reached}
use Rattle.rollout.specs.Halves.{entries_of, first, second, whole, box_leg}

abbrev -0 : Float
-0 = fin true 0 (pos 0)

abbrev -1 : Float
-1 = fin true 1 (pos 0)

-- ---- two axes, at rest; the first stays on its high wall, at -0.0, and the second goes to its own, at 1, in two substeps

abbrev towards_wall : Leg
towards_wall = box_leg binary64 (record { kp = 2!; kv = 1!; dt = fin false 1 (negsuc 0) }) 2 (+0 ∷ 1! ∷ []) (-1 ∷ -1 ∷ []) (-0 ∷ 1! ∷ [])

abbrev at_rest : State
at_rest = record { p = +0 ∷ +0 ∷ []; v = +0 ∷ +0 ∷ [] }

both_plants : (reached binary64 towards_wall at_rest 1 ≡ record { p = +0 ∷ fin false 1 (negsuc 0) ∷ []; v = +0 ∷ 1! ∷ [] }) × (reached binary64 towards_wall at_rest 2 ≡ record { p = +0 ∷ 1! ∷ []; v = +0 ∷ 1! ∷ [] })
unfolding reached substep axis round lt le eq add sub mul
both_plants = (refl, refl)

both_entries : (entries_of (first binary64 towards_wall at_rest 1) ≡ -0 ∷ []) × (entries_of (second binary64 towards_wall at_rest 1 1) ≡ +0 ∷ []) × (entries_of (whole binary64 towards_wall at_rest 1 1) ≡ -0 ∷ +0 ∷ [])
unfolding table stepped reached substep axis least_of least lesser between round lt le eq add sub mul
both_entries = (refl, refl, refl)

-- the least of both is the lesser of -0.0 and then +0.0, which is +0.0; the other way round it is -0.0
least_in_order : (margin_of (whole binary64 towards_wall at_rest 1 1) ≡ +0) × (lesser -0 +0 ≡ +0) × (lesser +0 -0 ≡ -0)
unfolding margin_of stepped reached substep axis least_of least lesser between round lt le eq add sub mul
least_in_order = (refl, refl, refl)

-- ---- so steep a gain that the second substep is no number: place 2 of the whole, 1 of the second half, and none of the first

abbrev steep : Leg
steep = box_leg binary64 (record { kp = fin false 1 (pos 1000); kv = 1!; dt = fin false 1 (negsuc 0) }) 1 (1! ∷ []) (-1 ∷ []) (1! ∷ [])

places_move_on : (place_of (first binary64 steep at_rest 1) ≡ 0) × (place_of (second binary64 steep at_rest 1 1) ≡ 1) × (place_of (whole binary64 steep at_rest 1 1) ≡ 2)
unfolding place_of leading all stepped reached substep axis least_of least lesser between round lt le eq add sub mul finite
places_move_on = (refl, refl, refl)

-- ---- an arm that follows one row, or none, and then brakes: the setpoint is where it stands when the rows end

abbrev braking : State → ℕ → ℕ → Task
braking s rows steps = record {
  gains = record { kp = 1!; kv = +0; dt = 1! };
  walls = record { shape = Box; lo = fin true 1 (pos 2) ∷ []; hi = fin false 1 (pos 2) ∷ [] };
  n = 1;
  start = s;
  rows = 2! ∷ [];
  horizon = 1;
  dim = 1;
  from = 0;
  commit = record { 0 = rows };
  brake = record { 0 = steps };
  per = record { 0 = 1 };
}

-- the row ends at 2, so that is held; after a braking substep the arm stands at 4, a second later too, on its wall
abbrev in_one : Task
in_one = braking (record { p = +0 ∷ []; v = +0 ∷ [] }) 1 2

stands_in_the_middle : after binary64 in_one 2 ≡ record { p = fin false 1 (pos 2) ∷ []; v = 2! ∷ [] }
unfolding row_of after aimed setpoint followed substep axis inward onto_disc over clamped round lt le eq add sub mul
stands_in_the_middle = refl

-- a second forecast from there holds 4, and passes the wall by 2: it is no second half
not_a_half : (slack_at (forecast binary64 in_one) 2 ≡ +0) × (slack_at (forecast binary64 (braking (after binary64 in_one 2) 0 1)) 0 ≡ fin true 1 (pos 1))
unfolding row_of entry after aimed setpoint followed substep axis slack_in least_of least lesser between inward onto_disc over clamped round lt le eq add sub mul
not_a_half = (refl, refl)
