-- Worked rows, by computation: a position beyond its wall is sent to the wall, one that is missing to 0.0, and an arm that brakes harder than it moves stops; a gripper
-- that keeps the last command, and for what that is judged; the gains of a run, and when it is too short; the walls that moved a row; and the place of a setpoint that is not finite.
use Rattle.std.specs.Prelude.{ℕ, ◌≡◌, refl, true, false, List, [], ◌∷◌, pos, replicate, Float}
use Rattle.std.specs.Float.{fin, nan, binary64}
use Rattle.std.specs.Float.Ieee.{round, add, sub, mul, div, lt, le, eq}
use Rattle.root.specs.Root.{floor_root, near_root, half, root_exponent, scaled, number, root_of}
use Rattle.checked.specs.Constants.{1!, 2! }
use Rattle.checked.specs.Each.{all, over}
use Rattle.checked.specs.Finite.{finite, all_finite, +0}
use Rattle.checked.specs.Least.{lesser, greater, least}
use Rattle.fmath.specs.Clamp.{clamped, side}
use Rattle.checked.specs.Checked.{sum_from, each, least_of, pure}
use Rattle.fmath.specs.Norm.{square_at, norm, squared_gap, dist}
use Rattle.pull.specs.Rule.{pulled}
use Rattle.envelope.specs.declared.ActionKind.TheVariants.{EePosition, EeDelta, JointVelocity}
use Rattle.envelope.specs.declared.BrakeKind.TheVariants.{PdSecondOrder, JerkLimited}
use Rattle.envelope.specs.declared.Gripper.TheVariants.{ToZero, LastCommand}
use Rattle.bits.specs.Bits.{bits_where}
use Rattle.workspace.specs.declared.Shape.{Shape}
use Rattle.workspace.specs.declared.Shape.TheVariants.{Box, Disc}
use Rattle.workspace.specs.Rule.{Walls, onto_disc, inward, wall_masks, unmoved, setpoint_masks, between, to_edge, slack_in}
use Rattle.workspace.specs.Rule as workspace
use Rattle.course.specs.Forecast.{leading, place_of}
use Rattle.rollout.specs.Plant.{axis, substep}
use Rattle.rollout.specs.Rule.{Task, followed, setpoint, aimed, after, entry, stop_distance, stop, forecast}
use Rattle.checked.specs.Row.{padded, eight}
use Rattle.brake.specs.Rule.{ramp, scaled_at, slowed, slower, shorter, brake_row, hold_row, sent_coordinate, sent_row, sent_masks}
use Rattle.brake.specs.Answer.{too_short, last_short, last_unfit}
use Rattle.brake.specs.Towards.{gains_in, run_short}

abbrev walls : Walls
walls = record { shape = Box; lo = fin true 1 (pos 0) ∷ fin true 1 (pos 0) ∷ []; hi = 2! ∷ 2! ∷ [] }

sent_to_the_wall : hold_row binary64 EePosition walls (fin false 5 (pos 0) ∷ []) 2 ≡ pure (2! ∷ replicate 7 +0)
unfolding hold_row workspace.setpoint eight padded inward onto_disc over clamped lt
sent_to_the_wall = refl

braked_like_held : brake_row binary64 EePosition 1! 1! walls (fin false 5 (pos 0) ∷ []) [] 2 ≡ pure (2! ∷ replicate 7 +0)
unfolding brake_row workspace.setpoint eight padded inward onto_disc over clamped lt
braked_like_held = refl

stops : brake_row binary64 JointVelocity 2! 1! walls [] (1! ∷ []) 2 ≡ pure (replicate 8 +0)
unfolding brake_row slower ramp slowed scaled_at each norm square_at sum_from root_of near_root floor_root scaled root_exponent half number greater round lt le eq add sub mul div finite
stops = refl

stops_in_place : brake_row binary64 EeDelta 2! 1! walls [] (1! ∷ []) 2 ≡ pure (replicate 8 +0)
unfolding brake_row shorter ramp slowed scaled_at each norm square_at sum_from root_of near_root floor_root scaled root_exponent half number greater round lt le eq add sub mul div finite
stops_in_place = refl

-- ---- a gripper on axis 1, past pos_dim 1, which the last command has put at 1; the row that is made has the wall at 2, and 0.0 for the gripper

abbrev five : Float
five = fin false 5 (pos 0)

abbrev made : List Float
made = 2! ∷ replicate 7 +0

-- in the mode that has the last command it stays, and the other axis is the row's own; in the Rust's it goes to 0
gripper_stays : sent_row LastCommand EePosition 1 (five ∷ 1! ∷ []) made 2 ≡ 2! ∷ 1! ∷ replicate 6 +0
unfolding sent_row sent_coordinate over
gripper_stays = refl

gripper_opens : sent_row ToZero EePosition 1 (five ∷ 1! ∷ []) made 2 ≡ made
unfolding sent_row sent_coordinate over
gripper_opens = refl

-- a velocity kind has the same row in both, and so has a position kind of which no axis is past pos_dim
velocities_as_made : sent_row LastCommand JointVelocity 1 (five ∷ 1! ∷ []) made 2 ≡ made
unfolding sent_row sent_coordinate over
velocities_as_made = refl

within_as_made : sent_row LastCommand EePosition 2 (five ∷ 1! ∷ []) made 2 ≡ made
unfolding sent_row sent_coordinate over
within_as_made = refl

-- a last command of one number is too short for two axes, and one of two is not; a number past them is judged, too
short_command : (last_short LastCommand 2 1 ≡ true) × (last_short LastCommand 2 2 ≡ false) × (last_unfit LastCommand (1! ∷ 1! ∷ nan ∷ []) ≡ true) × (last_unfit LastCommand (1! ∷ 1! ∷ 1! ∷ []) ≡ false)
unfolding last_short last_unfit all_finite all finite
short_command = (refl, refl, refl, refl)

-- in the Rust's mode neither is judged
no_command : (last_short ToZero 2 0 ≡ false) × (last_unfit ToZero (nan ∷ []) ≡ false)
unfolding last_short last_unfit
no_command = (refl, refl)

-- ---- a run under one setpoint

-- it has the gains of whatever brake is configured, also of a closed kind
own_gains : (gains_in (JerkLimited 1! 2! five) ≡ record { kp = 1!; kv = 2!; dt = five }) × (gains_in (PdSecondOrder 1! 2! five) ≡ gains_in (JerkLimited 1! 2! five))
own_gains = (refl, refl)

-- dim 2 and pos_dim 1: a setpoint of one number is too short, and so are no position, no velocity and one entry for two substeps; none is where each has one number more
short_for_a_run : (run_short 2 1 1 1 1 2 2 ≡ true) × (run_short 2 1 2 0 1 2 2 ≡ true) × (run_short 2 1 2 1 0 2 2 ≡ true) × (run_short 2 1 2 1 1 2 1 ≡ true) × (run_short 2 1 2 1 1 2 2 ≡ false)
unfolding run_short too_short
short_for_a_run = (refl, refl, refl, refl, refl)

-- ---- the walls

-- axis 1 has its low wall at 1, so that the 0.0 of a position with one coordinate is raised; 5 is lowered on axis 0
abbrev above : Walls
above = record { shape = Box; lo = fin true 1 (pos 0) ∷ 1! ∷ []; hi = 2! ∷ 2! ∷ [] }

walls_of_a_short_position : sent_masks EePosition above (fin false 5 (pos 0) ∷ []) 2 ≡ record { low = 2; high = 1 }
unfolding sent_masks setpoint_masks wall_masks bits_where eight padded over side lt
walls_of_a_short_position = refl

-- where min(dim, pos_dim) is 1, the masks have the first axis alone
walls_cut : sent_masks EePosition above (fin false 5 (pos 0) ∷ []) 1 ≡ record { low = 0; high = 1 }
unfolding sent_masks setpoint_masks wall_masks bits_where eight padded over side lt
walls_cut = refl

no_wall_for_a_velocity : sent_masks JointVelocity above (fin false 5 (pos 0) ∷ []) 2 ≡ unmoved
unfolding sent_masks
no_wall_for_a_velocity = refl

-- ---- nothing left to run on a round table: from is at commit, and the arm stands at (1e200, 0)

abbrev far_away : Shape → ℕ → Task
far_away shape steps = record {
  gains = record { kp = 1!; kv = 1!; dt = 1! };
  walls = record { shape = shape; lo = replicate 8 +0; hi = replicate 8 +0 };
  n = 2;
  start = record { p = fin false 0xa738c6bebb12d (pos 613) ∷ +0 ∷ []; v = +0 ∷ +0 ∷ [] };
  rows = +0 ∷ +0 ∷ [];
  horizon = 1;
  dim = 2;
  from = 1;
  commit = record { 0 = 1 };
  brake = record { 0 = steps };
  per = record { 0 = 1 };
}

-- its distance is not finite, so the setpoint is not: place 1, with no step that brakes and with one; with a box nothing is computed for it
place_of_the_setpoint : (place_of (forecast binary64 (far_away (Disc +0 +0 1!) 0)) ≡ 1) × (place_of (forecast binary64 (far_away (Disc +0 +0 1!) 1)) ≡ 1) × (place_of (forecast binary64 (far_away Box 0)) ≡ 0)
unfolding place_of leading all stop entry aimed setpoint followed after stop_distance substep axis slack_in least_of least lesser to_edge between inward onto_disc pulled over clamped dist squared_gap sum_from root_of round lt le eq add sub mul finite
place_of_the_setpoint = (refl, refl, refl)
