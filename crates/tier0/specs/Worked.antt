-- What is not promised of projection, which walls moved rows, what a round table does, a chunk that is not touched and rows that are not calm once moved, what a zone counts as that is not seen, and what several zones say, by computation.
use Rattle.envelope.specs.declared.Zone.{Zone}
use Rattle.std.specs.Prelude.{ℕ, zero, suc, ◌+◌, ◌<◌, ◌≡◌, refl, true, false, List, [], ◌∷◌, pos, negsuc, replicate, Float, None, Option, Some}
use Rattle.std.proofs.Common.{arith, inl, inr}
use Rattle.std.specs.Float.{binary64, fin}
use Rattle.std.specs.Float.Ieee.{add, sub, mul, div, lt, le, eq, ne}
use Rattle.root.specs.Root.{root_of, number, root_exponent, half, near_root, floor_root, scaled}
use Rattle.checked.specs.Constants.{1!, 2! }
use Rattle.checked.specs.Each.{at, over, all, some}
use Rattle.checked.specs.Finite.{finite, all_finite, +0}
use Rattle.checked.specs.Least.{lesser, greater, greatest}
use Rattle.checked.specs.Row.{padded}
use Rattle.checked.specs.Checked.{Checked, pure, sum_from, each}
use Rattle.fmath.specs.Norm.{square_at, squared_gap, norm, dist}
use Rattle.bits.specs.Bits.{bits_where}
use Rattle.fmath.specs.Clamp.{clamped, side}
use Rattle.workspace.specs.declared.Workspace.{Workspace}
use Rattle.workspace.specs.declared.Shape.TheVariants.{Box, Disc}
use Rattle.workspace.specs.Rule.{past_edge, outside, onto_disc, inward, wall_masks, any_masks, unmoved}
use Rattle.envelope.specs.declared.ClampMode.{ClampMode}
use Rattle.envelope.specs.declared.ClampMode.TheVariants.{Off, Project}
use Rattle.envelope.specs.declared.AbsentCamera.{AbsentCamera}
use Rattle.envelope.specs.declared.AbsentCamera.TheVariants as absent
use Rattle.envelope.specs.Slots.{zone_at, zone_with}
use Rattle.envelope.specs.declared.Zones.{Zones}
use Rattle.pull.specs.Rule.{toward, shortened, pulled}
use Rattle.envelope.specs.declared.FuseConfig.{FuseConfig}
use Rattle.tier0.specs.declared.Checks.{Checks}
use Rattle.tier0.specs.Rule.{WORKSPACE, SPEED, ACCEL, JERK, CONTACT, arms, Slow, clear, inside_seen, inside_zone, zone_step, zone_in, slowest, slow_zone, out_of_workspace, out_of_reach, trip_bits, moved_inside, leashed, reached, moves, project, projection, moves_inside, row_masks, Judgement, check_action}
use Rattle.tier0.specs.Chunk.{start_row, row_before, step_to, peak_step, some_longer, some_of, some_out_of_workspace, bend, jolt, exceeds, large_at, too_large, put_row, next_row, run_rows, projected_rows, rows_masks, check_chunk}
use Rattle.tier0.specs.Calm.{Calm, ButDifferences}
use Rattle.tier0.specs.Promises.{leash_now, SeenInside, Stands, ZonesStand, StandsAlike}

-- so many zones of two places; the further places hold none
abbrev list : ℕ → Option Zone → Option Zone → Zones
list count one other = record { count = count; list = one ∷ other ∷ None ∷ None ∷ [] }

-- a position of so many coordinates or more, and rows of dim
abbrev checking_on : ℕ → Zones → AbsentCamera → Float → ℕ → ClampMode → ℕ → Float → Workspace → Checks
checking_on shared zones choice dt dim mode armed step w = record {
  dim = dim;
  pos_dim = shared;
  armed = armed;
  zones = zones;
  absent_camera = choice;
  clamp = mode;
  dt = dt;
  a_max = 1!;
  j_max = 1!;
  reach_max = 1!;
  inv_dt = 1!;
  inv_dt2 = 1!;
  inv_dt3 = 1!;
  step_max = step;
  shape = w.shape;
  walls = record { lo = w.lo; hi = w.hi };
}

-- of one coordinate
abbrev checking_zones : Zones → AbsentCamera → Float → ℕ → ClampMode → ℕ → Float → Workspace → Checks
checking_zones = checking_on 1

-- a box whose walls are not looked at
abbrev no_walls : Workspace
no_walls = record { shape = Box; lo = []; hi = [] }

-- no zone, and a control period of 1
abbrev checking : ℕ → ClampMode → ℕ → Float → Workspace → Checks
checking = checking_zones (list 0 None None) absent.Slow 1!

-- SPEED alone armed, step 1.5
abbrev line : Checks
line = checking 1 Project SPEED (fin false 3 (negsuc 0)) no_walls

-- from 2^53 to x
abbrev along : Float → Checked Judgement
along x = check_action binary64 line (fin false 1 (pos 53) ∷ []) [] (fin false 1 (pos 53) ∷ []) (x ∷ [])

abbrev 2^53+2 : Float
2^53+2 = fin false 4503599627370497 (pos 1)

abbrev 2^53+4 : Float
2^53+4 = fin false 2251799813685249 (pos 2)

-- 2^53 + 4 is projected to 2^53 + 2, which trips again
pub projected_to : (along 2^53+4).value.after.rows ≡ 2^53+2 ∷ replicate 7 +0
unfolding check_action trip_bits mul projection slow_zone out_of_workspace dist project moves arms lt root_of reached bits_where sum_from add leashed ne squared_gap sub out_of_reach pulled padded over finite moved_inside shortened each toward div number root_exponent half near_root floor_root scaled
projected_to = refl

pub trips_again : (along 2^53+2).value.trips ≡ SPEED
unfolding check_action trip_bits mul projection slow_zone out_of_workspace dist project moves arms lt root_of reached bits_where sum_from add leashed ne squared_gap sub out_of_reach pulled padded over finite moved_inside shortened each toward div number root_exponent half near_root floor_root scaled
trips_again = refl

-- ---- which walls moved rows

-- rows of two coordinates, the first between -1 and 2
abbrev between : ClampMode → ℕ → Checks
between m armed = checking 2 m armed 1! (record { shape = Box; lo = fin true 1 (pos 0) ∷ replicate 7 +0; hi = 2! ∷ replicate 7 +0 })

abbrev -5! : Float
-5! = fin true 5 (pos 0)

abbrev 5! : Float
5! = fin false 5 (pos 0)

-- rows (-5, 5) and (5, 5): the first is raised on axis 0, the second is lowered there. Axis 1 is outside its box of 0..0 in both, and has no bit
pub both_walls : rows_masks (between Project (WORKSPACE + SPEED)) (-5! ∷ 5! ∷ 5! ∷ 5! ∷ []) 2 ≡ record { low = 1; high = 1 }
unfolding rows_masks moves_inside arms any_masks bits_where some padded over side lt
both_walls = refl

-- rows (-1, 5) and (2, 5) touch the walls
pub walls_touched : rows_masks (between Project (WORKSPACE + SPEED)) (fin true 1 (pos 0) ∷ 5! ∷ 2! ∷ 5! ∷ []) 2 ≡ unmoved
unfolding rows_masks moves_inside arms any_masks bits_where some padded over side lt
walls_touched = refl

pub none_under_off : rows_masks (between Off (WORKSPACE + SPEED)) (-5! ∷ 5! ∷ 5! ∷ 5! ∷ []) 2 ≡ unmoved
unfolding rows_masks moves_inside
none_under_off = refl

pub none_unarmed : rows_masks (between Project SPEED) (-5! ∷ 5! ∷ 5! ∷ 5! ∷ []) 2 ≡ unmoved
unfolding rows_masks moves_inside arms
none_unarmed = refl

-- the leash takes a box move back: from 2, an action at 2 is lowered to the wall at 1, and a leash of 2^-70 leaves it at 2. The high mask tells of the box move,
-- clamped_dims of the row as it goes out
abbrev held_back : Checked Judgement
held_back = check_action binary64 (checking 1 Project (WORKSPACE + SPEED) (fin false 1 (negsuc 69)) (record { shape = Box; lo = +0 ∷ []; hi = 1! ∷ [] })) (2! ∷ []) [] (2! ∷ []) (2! ∷ [])

pub taken_back : held_back.value.after.rows ≡ 2! ∷ replicate 7 +0
unfolding check_action trip_bits mul projection slow_zone out_of_workspace dist project moves arms lt root_of reached bits_where sum_from add leashed ne squared_gap sub out_of_reach pulled padded over finite moved_inside shortened each toward div number root_exponent half near_root floor_root scaled inward onto_disc clamped
taken_back = refl

pub taken_back_dims : held_back.value.after.mask ≡ 0
unfolding check_action trip_bits mul projection slow_zone out_of_workspace dist project moves arms lt root_of reached bits_where sum_from add leashed ne squared_gap sub out_of_reach pulled padded over finite moved_inside shortened each toward div number root_exponent half near_root floor_root scaled inward onto_disc clamped
taken_back_dims = refl

pub taken_back_walls : held_back.value.walls ≡ record { low = 0; high = 1 }
unfolding check_action row_masks moves_inside arms wall_masks bits_where side lt
taken_back_walls = refl

-- ---- a round table

-- a disc of radius 1 round (0, 0), with a box of 0..1 on the third axis; rows of dim, each coordinate shared; a step of 1
abbrev round : ℕ → ClampMode → ℕ → Checks
round dim mode armed = checking_on dim (list 0 None None) absent.Slow 1! dim mode armed 1! (record { shape = Disc +0 +0 1!; lo = replicate 8 +0; hi = replicate 8 1! })

-- the first two coordinates, and zeros up to eight
abbrev flat : Float → Float → List Float
flat x y = x ∷ y ∷ replicate 6 +0

-- an action of two coordinates from (0, 2), and from where it is
abbrev from_afar : Float → Float → Checked Judgement
from_afar x y = check_action binary64 (round 2 Project (WORKSPACE + SPEED)) (+0 ∷ 2! ∷ []) [] (+0 ∷ 2! ∷ []) (x ∷ y ∷ [])

abbrev at_rest : Float → Float → Checked Judgement
at_rest x y = check_action binary64 (round 2 Project (WORKSPACE + SPEED)) (x ∷ y ∷ []) [] (x ∷ y ∷ []) (x ∷ y ∷ [])

-- (1, 0) is on the edge: it does not trip, and stays
pub edge_not_tripped : (at_rest 1! +0).value.trips ≡ 0
unfolding check_action trip_bits mul projection slow_zone out_of_workspace dist project moves arms lt root_of reached bits_where sum_from add leashed ne squared_gap sub out_of_reach pulled padded over finite moved_inside shortened each toward div number root_exponent half near_root floor_root scaled inward onto_disc outside past_edge some
edge_not_tripped = refl

pub edge_stays : (at_rest 1! +0).value.after.rows ≡ flat 1! +0
unfolding check_action trip_bits mul projection slow_zone out_of_workspace dist project moves arms lt root_of reached bits_where sum_from add leashed ne squared_gap sub out_of_reach pulled padded over finite moved_inside shortened each toward div number root_exponent half near_root floor_root scaled inward onto_disc outside past_edge some
edge_stays = refl

-- 1 - 2^-36
abbrev just_inside : Float
just_inside = fin false 68719476735 (negsuc 35)

-- (2, 0) is pulled to just inside the edge. What stands in the first two places of the walls is not looked at, and sets no bit
pub pulled_onto_it : moved_inside binary64 (round 2 Project WORKSPACE) (flat 2! +0) ≡ pure (flat just_inside +0)
unfolding moved_inside arms lt inward onto_disc pulled shortened each toward dist sum_from squared_gap add sub mul div root_of number root_exponent half near_root floor_root scaled over finite
pulled_onto_it = refl

pub no_wall_of_a_disc : row_masks (round 2 Project WORKSPACE) (flat 2! +0) ≡ unmoved
unfolding row_masks moves_inside arms wall_masks bits_where
no_wall_of_a_disc = refl

-- the third axis has its walls: 5 is lowered to 1, and has a bit
pub pulled_and_lowered : (moved_inside binary64 (round 3 Project WORKSPACE) (2! ∷ +0 ∷ 5! ∷ replicate 5 +0)).value ≡ just_inside ∷ +0 ∷ 1! ∷ replicate 5 +0
unfolding moved_inside arms lt inward onto_disc pulled shortened each toward dist sum_from squared_gap add sub mul div root_of number root_exponent half near_root floor_root scaled over finite clamped
pulled_and_lowered = refl

pub third_axis_alone : row_masks (round 3 Project WORKSPACE) (2! ∷ +0 ∷ 5! ∷ []) ≡ record { low = 0; high = 4 }
unfolding row_masks moves_inside arms wall_masks bits_where side lt
third_axis_alone = refl

-- from (0, 2) it trips WORKSPACE and SPEED. The leash of 1 comes after the pull: it moves (1 - 2^-36, 0), and leaves the row past the edge
pub tripped_past_it : (from_afar 2! +0).value.trips ≡ WORKSPACE + SPEED
unfolding check_action trip_bits mul projection slow_zone out_of_workspace dist project moves arms lt root_of reached bits_where sum_from add leashed ne squared_gap sub out_of_reach pulled padded over finite moved_inside shortened each toward div number root_exponent half near_root floor_root scaled inward onto_disc outside past_edge some
tripped_past_it = refl

pub leash_after_the_pull : (from_afar 2! +0).value.after.rows ≡ flat (fin false 2014070981995875 (negsuc 51)) (fin false 4979057290690625 (negsuc 51))
unfolding check_action trip_bits mul projection slow_zone out_of_workspace dist project moves arms lt root_of reached bits_where sum_from add leashed ne squared_gap sub out_of_reach pulled padded over finite moved_inside shortened each toward div number root_exponent half near_root floor_root scaled inward onto_disc outside past_edge some
leash_after_the_pull = refl

-- the other way round it would have been another row
pub pull_after_the_leash : (moved_inside binary64 (round 2 Project WORKSPACE) (leashed binary64 (round 2 Project SPEED) clear (+0 ∷ 2! ∷ []) (flat 2! +0)).value).value ≡ flat (fin false 8644055842330325 (negsuc 53)) (fin false 7902513085146663 (negsuc 52))
unfolding moved_inside leashed arms lt inward onto_disc pulled shortened each toward dist sum_from squared_gap add sub mul div root_of number root_exponent half near_root floor_root scaled over finite
pull_after_the_leash = refl

-- a distance that overflows is 13, also under ClampMode Off and where another row is outside already: (2, 0) and (2^600, 0); unarmed it is not computed
pub each_row_measured : (some_out_of_workspace binary64 (round 2 Off WORKSPACE) (2! ∷ +0 ∷ fin false 1 (pos 600) ∷ +0 ∷ []) 2).sound ≡ false
unfolding some_out_of_workspace some_of all out_of_workspace outside past_edge arms dist sum_from squared_gap add sub mul root_of number root_exponent half near_root floor_root scaled padded over finite
each_row_measured = refl

pub not_measured_unarmed : some_out_of_workspace binary64 (round 2 Off SPEED) (2! ∷ +0 ∷ fin false 1 (pos 600) ∷ +0 ∷ []) 2 ≡ pure false
unfolding some_out_of_workspace some_of all some out_of_workspace arms
not_measured_unarmed = refl

-- ---- a calm chunk

-- every check armed, a box of 0..1, and 1 for each limit
abbrev all_armed : Checks
all_armed = checking 1 Project 63 1! (record { shape = Box; lo = +0 ∷ []; hi = 1! ∷ [] })

-- rows 1, 0, 1 from the position 0: each step touches SPEED's limit, each row a wall, the first the reach. The second difference -2 and the third 4 are too large
abbrev swing : Checked Judgement
swing = check_chunk binary64 all_armed (+0 ∷ []) [] (1! ∷ +0 ∷ 1! ∷ []) (5! ∷ 5! ∷ 5! ∷ 5! ∷ []) 3

pub raises_both : swing.value.trips ≡ ACCEL + JERK
unfolding check_chunk trip_bits slow_zone slowest peak_step some_longer some_out_of_workspace some_of all some too_large large_at exceeds bend jolt start_row row_before step_to norm square_at dist sum_from squared_gap add sub mul root_of number root_exponent half near_root floor_root scaled arms out_of_workspace outside past_edge out_of_reach projected_rows run_rows next_row moves moved_inside inward onto_disc clamped leashed reached pulled padded over each bits_where lt ne finite
raises_both = refl

-- they come out as they went in, and the number past them stays
pub swings_on : swing.value.after ≡ record { rows = 1! ∷ +0 ∷ 1! ∷ 5! ∷ []; mask = 0 }
unfolding check_chunk slow_zone slowest start_row row_before projected_rows put_row run_rows next_row moves moved_inside inward onto_disc clamped leashed reached pulled padded over each dist sum_from squared_gap add sub mul root_of number root_exponent half near_root floor_root scaled arms bits_where lt ne eq finite
swings_on = refl

-- no wall moved them, and every number on the way was finite, so that the call is accepted
pub no_wall_moved_them : swing.value.walls ≡ unmoved
unfolding check_chunk rows_masks moves_inside arms any_masks bits_where some padded over side lt
no_wall_moved_them = refl

pub nothing_overflowed : swing.sound ≡ true
unfolding check_chunk trip_bits slow_zone slowest peak_step some_longer some_out_of_workspace some_of all some too_large large_at exceeds bend jolt start_row row_before step_to norm square_at dist sum_from squared_gap add sub mul root_of number root_exponent half near_root floor_root scaled arms out_of_workspace outside past_edge out_of_reach projected_rows run_rows next_row moves moved_inside inward onto_disc clamped leashed reached pulled padded over each bits_where lt ne finite greatest greater put_row
nothing_overflowed = refl

-- so a chunk that raises the two is calm
pub both_are_calm : Calm (ACCEL + JERK)
both_are_calm = record { workspace_calm = refl; speed_calm = refl; contact_calm = refl; reach_calm = refl }

-- two configurations that differ in ACCEL and JERK: all armed, and all but these
pub all_but_differences : ButDifferences 63 51
all_but_differences = record { same_workspace_bit = refl; same_speed_bit = refl; same_reach_bit = refl; same_contact_bit = refl }

abbrev -3! : Float
-3! = fin true 3 (pos 0)

-- -2 - 2^-36
abbrev pulled_out : Float
pulled_out = fin true 137438953473 (negsuc 35)

-- a row that was moved need not be calm. The arm stands at -3, outside the box; a row at 0 is inside, and three steps away. The leash pulls it to about -2
abbrev from_outside : Float → Checked Judgement
from_outside x = check_action binary64 (checking 1 Project (WORKSPACE + SPEED) 1! (record { shape = Box; lo = +0 ∷ []; hi = 1! ∷ [] })) (-3! ∷ []) [] (-3! ∷ []) (x ∷ [])

pub speed_alone : (from_outside +0).value.trips ≡ SPEED
unfolding check_action trip_bits mul projection slow_zone out_of_workspace dist project moves arms lt root_of reached bits_where sum_from add leashed ne squared_gap sub out_of_reach pulled padded over finite moved_inside shortened each toward div number root_exponent half near_root floor_root scaled inward onto_disc clamped outside past_edge some
speed_alone = refl

pub out_of_the_box : (from_outside +0).value.after.rows ≡ pulled_out ∷ replicate 7 +0
unfolding check_action trip_bits mul projection slow_zone out_of_workspace dist project moves arms lt root_of reached bits_where sum_from add leashed ne squared_gap sub out_of_reach pulled padded over finite moved_inside shortened each toward div number root_exponent half near_root floor_root scaled inward onto_disc clamped outside past_edge some
out_of_the_box = refl

-- handed in again it is slow enough, and outside
pub then_outside : (from_outside pulled_out).value.trips ≡ WORKSPACE
unfolding check_action trip_bits mul projection slow_zone out_of_workspace dist project moves arms lt root_of reached bits_where sum_from add leashed ne squared_gap sub out_of_reach pulled padded over finite moved_inside shortened each toward div number root_exponent half near_root floor_root scaled inward onto_disc clamped outside past_edge some
then_outside = refl

-- the box raises it to 0, the low wall, and the leash brings it back to where it was: no coordinate is another number
pub brought_back : (from_outside pulled_out).value.after ≡ record { rows = pulled_out ∷ replicate 7 +0; mask = 0 }
unfolding check_action trip_bits mul projection slow_zone out_of_workspace dist project moves arms lt root_of reached bits_where sum_from add leashed ne squared_gap sub out_of_reach pulled padded over finite moved_inside shortened each toward div number root_exponent half near_root floor_root scaled inward onto_disc clamped outside past_edge some
brought_back = refl

pub at_the_low_wall : (from_outside pulled_out).value.walls ≡ record { low = 1; high = 0 }
unfolding check_action row_masks moves_inside arms wall_masks bits_where side lt
at_the_low_wall = refl

-- nor need one that was pulled onto a disc: of radius 1.5 round (2^53, 0), 2^53 + 4 goes to 2^53 + 2, which is past the edge
abbrev far_disc : Float → Checked Judgement
far_disc x = check_action binary64 (checking_on 2 (list 0 None None) absent.Slow 1! 2 Project WORKSPACE 1! (record { shape = Disc (fin false 1 (pos 53)) +0 (fin false 3 (negsuc 0)); lo = []; hi = [] })) (x ∷ +0 ∷ []) [] (x ∷ +0 ∷ []) (x ∷ +0 ∷ [])

pub pulled_past_the_edge : (far_disc 2^53+4).value.after.rows ≡ flat 2^53+2 +0
unfolding check_action trip_bits mul projection slow_zone out_of_workspace dist project moves arms lt root_of reached bits_where sum_from add leashed ne squared_gap sub out_of_reach pulled padded over finite moved_inside shortened each toward div number root_exponent half near_root floor_root scaled inward onto_disc clamped outside past_edge some
pulled_past_the_edge = refl

pub past_the_edge_again : (far_disc 2^53+2).value.trips ≡ WORKSPACE
unfolding check_action trip_bits mul projection slow_zone out_of_workspace dist project moves arms lt root_of reached bits_where sum_from add leashed ne squared_gap sub out_of_reach pulled padded over finite moved_inside shortened each toward div number root_exponent half near_root floor_root scaled inward onto_disc clamped outside past_edge some
past_the_edge_again = refl

-- ---- a zone that is not seen

-- a zone of radius 1, whose centre is on channels 2 and 0; the control period is 2
abbrev zoned_at : Float → AbsentCamera → ℕ → Checks
zoned_at speed choice armed = checking_zones (list 1 (zone_with 2 0 1! speed) None) choice 2! 1 Off armed 1! no_walls

-- its speed is 1.5, so that the step is 3
abbrev zoned : AbsentCamera → ℕ → Checks
zoned = zoned_at (fin false 3 (negsuc 0))

abbrev at_zone_speed : Checked Slow
at_zone_speed = pure (record { inside = true; step = fin false 3 (pos 0) })

-- the arm at (5, 5), in a corner, is outside a zone round (0, 0), and inside the same zone where the message ends before channel 2
abbrev corner : List Float
corner = 5! ∷ 5! ∷ []

pub far_from_it : slow_zone binary64 (zoned absent.Slow CONTACT) corner (+0 ∷ +0 ∷ +0 ∷ []) ≡ pure clear
unfolding slow_zone slowest arms zone_in inside_zone inside_seen dist sum_from squared_gap add sub mul root_of number root_exponent half near_root floor_root scaled le finite
far_from_it = refl

pub first_channel_missing : slow_zone binary64 (zoned absent.Slow CONTACT) corner (+0 ∷ +0 ∷ []) ≡ at_zone_speed
unfolding slow_zone slowest arms zone_in inside_zone zone_step mul finite
first_channel_missing = refl

-- on channels 0 and 2, the same message lacks the second
pub second_channel_missing : zone_in binary64 2! absent.Slow (zone_with 0 2 1! (fin false 3 (negsuc 0))) corner (+0 ∷ +0 ∷ []) ≡ at_zone_speed
unfolding zone_in inside_zone zone_step mul finite
second_channel_missing = refl

pub no_message : slow_zone binary64 (zoned absent.Slow CONTACT) corner [] ≡ at_zone_speed
unfolding slow_zone slowest arms zone_in inside_zone zone_step mul finite
no_message = refl

-- a position of one coordinate, whatever the camera sends
pub one_coordinate : slow_zone binary64 (zoned absent.Slow CONTACT) (5! ∷ []) (+0 ∷ +0 ∷ +0 ∷ []) ≡ at_zone_speed
unfolding slow_zone slowest arms zone_in inside_zone zone_step mul finite
one_coordinate = refl

-- with the other choice, with CONTACT unarmed and without a zone there is none
pub none_by_choice : slow_zone binary64 (zoned absent.NoZone CONTACT) corner [] ≡ pure clear
unfolding slow_zone slowest arms zone_in inside_zone
none_by_choice = refl

pub none_where_unarmed : slow_zone binary64 (zoned absent.Slow SPEED) corner [] ≡ pure clear
unfolding slow_zone arms
none_where_unarmed = refl

pub none_configured : slow_zone binary64 (checking 1 Off CONTACT 1! no_walls) corner [] ≡ pure clear
unfolding slow_zone slowest arms zone_in
none_configured = refl

-- a distance that would overflow is not computed: the arm at 2^600
pub distance_not_computed : slow_zone binary64 (zoned absent.Slow CONTACT) (fin false 1 (pos 600) ∷ +0 ∷ []) (+0 ∷ +0 ∷ []) ≡ at_zone_speed
unfolding slow_zone slowest arms zone_in inside_zone zone_step mul finite
distance_not_computed = refl

pub distance_computed : (slow_zone binary64 (zoned absent.Slow CONTACT) (fin false 1 (pos 600) ∷ +0 ∷ []) (+0 ∷ +0 ∷ +0 ∷ [])).sound ≡ false
unfolding slow_zone slowest arms zone_in inside_zone inside_seen dist sum_from squared_gap add sub mul root_of number root_exponent half near_root floor_root scaled le finite
distance_computed = refl

-- the step is computed, and is 13 where it is not finite: speed 2^1023; with the other choice it is not
pub step_computed : (slow_zone binary64 (zoned_at (fin false 1 (pos 1023)) absent.Slow CONTACT) corner []).sound ≡ false
unfolding slow_zone slowest arms zone_in inside_zone zone_step mul finite
step_computed = refl

pub step_not_computed : slow_zone binary64 (zoned_at (fin false 1 (pos 1023)) absent.NoZone CONTACT) corner [] ≡ pure clear
unfolding slow_zone slowest arms zone_in inside_zone
step_not_computed = refl

-- ---- several zones

-- two zones on channels of four, with the control period 2: one of radius 1 and speed 1.5 round (x, y), one of radius 2 and speed 0.5 round (z, w), where the message is x, y, z, w
abbrev both : ℕ → Checks
both count = checking_zones (list count (zone_with 0 1 1! (fin false 3 (negsuc 0))) (zone_with 2 3 2! (fin false 1 (negsuc 0)))) absent.Slow 2! 1 Off (CONTACT + SPEED) 2! no_walls

abbrev at_step : Float → Checked Slow
at_step x = pure (record { inside = true; step = x })

-- inside both, the least of 3 and 1 holds, in either order
pub inside_both : slow_zone binary64 (both 2) corner (5! ∷ 5! ∷ 5! ∷ 5! ∷ []) ≡ at_step 1!
unfolding slow_zone slowest arms zone_in inside_zone inside_seen zone_step dist sum_from squared_gap add sub mul root_of number root_exponent half near_root floor_root scaled le lt lesser finite
inside_both = refl

pub inside_both_swapped : slow_zone binary64 (checking_zones (list 2 (zone_with 2 3 2! (fin false 1 (negsuc 0))) (zone_with 0 1 1! (fin false 3 (negsuc 0)))) absent.Slow 2! 1 Off CONTACT 1! no_walls) corner (5! ∷ 5! ∷ 5! ∷ 5! ∷ []) ≡ at_step 1!
unfolding slow_zone slowest arms zone_in inside_zone inside_seen zone_step dist sum_from squared_gap add sub mul root_of number root_exponent half near_root floor_root scaled le lt lesser finite
inside_both_swapped = refl

-- inside the first alone, and inside the second alone
pub inside_first : slow_zone binary64 (both 2) corner (5! ∷ 5! ∷ +0 ∷ +0 ∷ []) ≡ at_zone_speed
unfolding slow_zone slowest arms zone_in inside_zone inside_seen zone_step dist sum_from squared_gap add sub mul root_of number root_exponent half near_root floor_root scaled le finite
inside_first = refl

pub inside_second : slow_zone binary64 (both 2) corner (+0 ∷ +0 ∷ 5! ∷ 5! ∷ []) ≡ at_step 1!
unfolding slow_zone slowest arms zone_in inside_zone inside_seen zone_step dist sum_from squared_gap add sub mul root_of number root_exponent half near_root floor_root scaled le finite
inside_second = refl

-- the second is past the count
pub second_not_read : slow_zone binary64 (both 1) corner (+0 ∷ +0 ∷ 5! ∷ 5! ∷ []) ≡ pure clear
unfolding slow_zone slowest arms zone_in inside_zone inside_seen zone_step dist sum_from squared_gap add sub mul root_of number root_exponent half near_root floor_root scaled le finite
second_not_read = refl

-- a message of two numbers shows the first, from afar, and not the second: the arm counts as inside that
pub second_not_seen : slow_zone binary64 (both 2) corner (+0 ∷ +0 ∷ []) ≡ at_step 1!
unfolding slow_zone slowest arms zone_in inside_zone inside_seen zone_step dist sum_from squared_gap add sub mul root_of number root_exponent half near_root floor_root scaled le finite
second_not_seen = refl

-- the first decides nothing for the second: its distance is computed, and overflows with the centre at 2^600
pub each_distance_computed : (slow_zone binary64 (both 2) corner (5! ∷ 5! ∷ fin false 1 (pos 600) ∷ +0 ∷ [])).sound ≡ false
unfolding slow_zone slowest arms zone_in inside_zone inside_seen zone_step dist sum_from squared_gap add sub mul root_of number root_exponent half near_root floor_root scaled le finite
each_distance_computed = refl

-- nor for its step: speed 2^1023
pub each_step_computed : (slow_zone binary64 (checking_zones (list 2 (zone_with 0 1 1! (fin false 3 (negsuc 0))) (zone_with 2 3 2! (fin false 1 (pos 1023)))) absent.Slow 2! 1 Off CONTACT 1! no_walls) corner (5! ∷ 5! ∷ 5! ∷ 5! ∷ [])).sound ≡ false
unfolding slow_zone slowest arms zone_in inside_zone inside_seen zone_step dist sum_from squared_gap add sub mul root_of number root_exponent half near_root floor_root scaled le lt lesser finite
each_step_computed = refl

-- a place that counts and holds none is no zone
pub empty_place_first : slow_zone binary64 (checking_zones (list 2 None (zone_with 2 3 2! (fin false 1 (negsuc 0)))) absent.Slow 2! 1 Off CONTACT 1! no_walls) corner [] ≡ at_step 1!
unfolding slow_zone slowest arms zone_in inside_zone zone_step mul lesser finite
empty_place_first = refl

pub empty_place_last : slow_zone binary64 (checking_zones (list 4 (zone_with 2 3 2! (fin false 1 (negsuc 0))) None) absent.Slow 2! 1 Off CONTACT 1! no_walls) corner [] ≡ at_step 1!
unfolding slow_zone slowest arms zone_in inside_zone zone_step mul lesser finite
empty_place_last = refl

-- the leash, with SPEED armed at a step of 2: that step inside the first zone, whose step is 3, and 1 inside both
pub leash_inside_first : leash_now binary64 (both 2) corner (5! ∷ 5! ∷ +0 ∷ +0 ∷ []) ≡ 2!
unfolding slow_zone slowest arms zone_in inside_zone inside_seen zone_step dist sum_from squared_gap add sub mul root_of number root_exponent half near_root floor_root scaled le lt lesser finite
leash_inside_first = refl

pub leash_inside_both : leash_now binary64 (both 2) corner (5! ∷ 5! ∷ 5! ∷ 5! ∷ []) ≡ 1!
unfolding slow_zone slowest arms zone_in inside_zone inside_seen zone_step dist sum_from squared_gap add sub mul root_of number root_exponent half near_root floor_root scaled le lt lesser finite
leash_inside_both = refl

-- what `unseen_as_inside` compares with is to be had, also for a position of one coordinate: the same with a second one, and a message that has the arm for the centre
pub an_arm_inside : SeenInside binary64 1! 2 0 corner (5! ∷ +0 ∷ 5! ∷ [])
unfolding dist sum_from squared_gap add sub mul root_of number root_exponent half near_root floor_root scaled le finite
an_arm_inside = record { is_seen = refl; distance_finite = refl; within = refl }

pub stands_beside_it : (c : FuseConfig) → c.pos_dim ≡ 1 → StandsAlike c (5! ∷ []) [] corner (5! ∷ +0 ∷ 5! ∷ [])
unfolding finite all_finite all
stands_beside_it c one = rw one (record { long_enough = omega arith; as_long = omega arith; same_axes = λ j b. first j (omega arith); finite_alike = refl })
  where
    first : (j : ℕ) → j < 1 → at corner j ≡ at (5! ∷ []) j
    first zero b = refl
    first (suc j) b = absurd (omega arith)

-- nor do other zones stand in the way: from a message of two numbers, which shows the first of two zones and not the second, to one of four that shows the first alike and the arm inside the second
abbrev shown : List Float
shown = +0 ∷ +0 ∷ []

abbrev both_shown : List Float
both_shown = +0 ∷ +0 ∷ 5! ∷ 5! ∷ []

abbrev standing : Option Zone → Type 0
standing None = true ≡ true
standing (Some z) = Stands binary64 z.radius z.a0 z.a1 corner shown corner both_shown

each_stands : (k : ℕ) → k < 2 → standing (zone_at (both 2).zones k)
unfolding dist sum_from squared_gap add sub mul root_of number root_exponent half near_root floor_root scaled le finite
each_stands zero b = inr (inr (record { here = refl; there = refl; same_place = λ j w. refl; same_first = refl; same_second = refl }))
each_stands (suc zero) b = inl (refl, record { is_seen = refl; distance_finite = refl; within = refl })
each_stands (suc (suc k)) b = absurd (omega arith)

pub both_stand : (c : FuseConfig) → c.zones ≡ (both 2).zones → ZonesStand binary64 c corner shown corner both_shown
both_stand c is armed k l radius speed i j e =
    let placed : zone_at (both 2).zones k ≡ zone_with i j radius speed = rw is at e in
    rw placed at (each_stands k (rw is at l))
