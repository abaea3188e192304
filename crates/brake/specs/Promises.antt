-- What is promised of one call of `brake_feasible` with the second-order brake, said of its own answer and of the entries that were lent to it; that the rows of brake and
-- hold lie in the box of each axis that has one, in the gripper's new mode of each within pos_dim, what they have past pos_dim in either mode, and what their masks say. The proofs are `proofs/Promises.antt`, `proofs/Boxed.antt`, `proofs/Modes.antt` and `proofs/Walled.antt`.
use Rattle.std.specs.Prelude.{ℕ, suc, ◌+◌, ◌-◌, ◌*◌, ◌≤◌, ◌<◌, ◌≡◌, Bool, true, false, ◌&&◌, List, T, length, Float, if◌then◌else◌, Err, Ok, Result}
use Rattle.std.specs.Float.{binary64, inf}
use Rattle.std.specs.Float.Ieee.{lt, le, sub, fits}
use Rattle.refusal.specs.declared.Refusal.{Refusal}
use Rattle.refusal.specs.Order.{refused_for}
use Rattle.fmath.specs.Answer.{some_not_finite}
use Rattle.checked.specs.Each.{at}
use Rattle.checked.specs.Finite.{+0}
use Rattle.checked.specs.Row.{eight}
use Rattle.bits.specs.Bits.{bit}
use Rattle.chunk.specs.declared.Header.{Header}
use Rattle.conformal.specs.Rule.{Tables}
use Rattle.envelope.specs.declared.BrakeKind.TheVariants.{PdSecondOrder}
use Rattle.envelope.specs.declared.ControlSteps.{ControlSteps}
use Rattle.envelope.specs.declared.Gripper.TheVariants.{ToZero, LastCommand}
use Rattle.envelope.specs.Promises.{braked_by, gripped_by, margined_by}
use Rattle.envelope.specs.declared.FuseConfig.{FuseConfig}
use Rattle.workspace.specs.declared.WallMasks.{WallMasks}
use Rattle.workspace.specs.declared.Shape.TheVariants.{Box, Disc}
use Rattle.workspace.specs.Shape.{boxed}
use Rattle.workspace.specs.Rule.{from_centre, onto_disc, inward, gap, slack, unmoved}
use Rattle.workspace.specs.AtBox.{box_inward, box_slack}
use Rattle.workspace.specs.Promises.{AxisTold, NoBitPast}
use Rattle.rollout.specs.Plant.{Gains, substep}
use Rattle.course.specs.Plant.{State}
use Rattle.rollout.specs.Rule.{Task, followed, setpoint, aim, after, entry, stop_distance, stop}
use Rattle.brake.specs.declared.BrakeOut.{BrakeOut}
use Rattle.brake.specs.Rule.{live, walls_at, second_order, forecast_of, is_position, takes_last}
use Rattle.brake.specs.Answer.{forecast_answer, forecast_slacks, masks_sent, brake_sent, hold_sent, brake_answer, brake_output, hold_answer, hold_output, forecast_with}
use Rattle.brake.specs.Towards.{running}
use Rattle.brake.specs.NoMode as noMode

-- ---- a call

pub record Call : Type 0 where
  pub config : FuseConfig
  pub tables : Tables
  pub position : List Float
  pub velocity : List Float
  pub rows : List Float
  pub header : Header
  pub from : ℕ
  pub lent : List Float

-- what it answers, and the lent entries afterwards, as the entry's contract has them
abbrev pub answer : Call → Result BrakeOut Refusal
answer x = forecast_answer binary64 x.config x.tables x.position x.velocity x.rows x.header x.from (length x.lent)

abbrev pub entries : Call → List Float
entries x = forecast_slacks binary64 x.config x.tables x.position x.velocity x.rows x.header x.from x.lent

-- no refusal but 13 stops the call
abbrev pub OnlyThirteen : Call → Type 0
OnlyThirteen x = (r : Refusal) → answer x ≡ Err r → r.number ≡ 13

-- the configuration has the second-order brake, with these gains
abbrev pub SecondOrder : Call → Gains → Type 0
SecondOrder x g = x.config.brake.kind ≡ PdSecondOrder g.kp g.kv g.dt

-- N: the control steps still committed from the given row, none if past them, plus the braking steps, times the substeps
abbrev pub N : Call → ℕ
N x = (x.config.brake.commit.0 - x.from + x.config.brake.brake_steps.0) * x.config.brake.substeps.0

-- ---- the step rules, from the given start

abbrev pub task : Call → Gains → Task
task x g = second_order binary64 x.config x.position x.velocity x.rows x.header x.from g

-- the plant after k substeps of the rule, and the slack that is taken there
abbrev pub plant_after : Call → Gains → ℕ → State
plant_after x g k = after binary64 (task x g) k

abbrev pub slack_after : Call → Gains → ℕ → Float
slack_after x g k = (slack binary64 (walls_at binary64 x.config) (plant_after x g k).p (live x.config)).value

-- every number that substep k + 1 computes is finite, its slack's included and, at a braking one, those of the setpoint
abbrev pub finite_in : Call → Gains → ℕ → Bool
finite_in x g k = (entry binary64 (task x g) k).sound

-- every number that the setpoint, which is made in any case, and the stop distance compute is finite
abbrev pub stop_finite : Call → Gains → Bool
stop_finite x g = (stop binary64 (task x g)).sound

-- every computed number is finite
pub record AllFinite (x : Call) (g : Gains) : Type 0 where
  pub substeps : (k : ℕ) → k < N x → finite_in x g k ≡ true
  pub stops : stop_finite x g ≡ true

-- substep k + 1 is the first that computes a number that isn't finite
pub record FirstFailing (x : Call) (g : Gains) (k : ℕ) : Type 0 where
  pub counted : k < N x
  pub before : (j : ℕ) → j < k → finite_in x g j ≡ true
  pub there : finite_in x g k ≡ false

-- ---- demand 3

-- the first n lent entries are the slacks after 1, .., n substeps, and all others are kept
pub record Wrote (x : Call) (g : Gains) (n : ℕ) : Type 0 where
  pub enough_room : n ≤ length x.lent
  pub kth : (k : ℕ) → k < n → at (entries x) k ≡ slack_after x g (suc k)
  pub past_kept : (k : ℕ) → n ≤ k → at (entries x) k ≡ at x.lent k
  pub length_kept : length (entries x) ≡ length x.lent

-- it reports N and writes N slacks; the margin is the least of them, or infinity if there is none; it is feasible exactly when none is negative
pub record Forecasts (x : Call) (g : Gains) : Type 0 where
  pub margin : Float
  pub feasible : Bool
  pub reports_n : answer x ≡ forecast_with (N x) margin feasible (stop binary64 (task x g)).value
  pub wrote : Wrote x g (N x)
  pub margin_least : (k : ℕ) → k < N x → lt (at (entries x) k) margin ≡ false
  pub margin_attained : 0 < N x → (k : ℕ) × (k < N x) × (margin ≡ at (entries x) k)
  pub margin_of_none : N x ≡ 0 → margin ≡ inf false
  pub feasible_only : feasible ≡ true → (k : ℕ) → k < N x → lt (at (entries x) k) +0 ≡ false
  pub feasible_where : ((k : ℕ) → k < N x → lt (at (entries x) k) +0 ≡ false) → feasible ≡ true

-- refused with 13, naming a place
abbrev pub RefusedAt : Call → ℕ → Type 0
RefusedAt x place = answer x ≡ Err (record { number = 13; place = place })

pub record Demand3 (x : Call) (g : Gains) : Type 0 where
  -- if every computed number is finite, and only then
  pub forecasts : AllFinite x g → Forecasts x g
  pub only_finite : (n : ℕ) (margin : Float) (feasible : Bool) (stop : Float) → answer x ≡ forecast_with n margin feasible stop → AllFinite x g
  -- if substep k first computes a number that isn't finite, and only then, it is refused naming k; the k - 1 earlier slacks are written
  pub refuses : (k : ℕ) → FirstFailing x g k → RefusedAt x (suc k)
  pub wrote_before : (k : ℕ) → FirstFailing x g k → Wrote x g k
  pub only_failing : (k : ℕ) → k < N x → RefusedAt x (suc k) → FirstFailing x g k
  -- a stop distance that isn't finite has the place after the last entry, and all entries are written
  pub refuses_the_stop : ((k : ℕ) → k < N x → finite_in x g k ≡ true) → stop_finite x g ≡ false → RefusedAt x (suc (N x)) × Wrote x g (N x)

-- ---- the setpoint

-- the substeps under committed rows, and whether each number of the setpoint that is made after them is finite
abbrev pub rows_before : Call → ℕ
rows_before x = (x.config.brake.commit.0 - x.from) * x.config.brake.substeps.0

abbrev pub setpoint_finite : Call → Gains → Bool
setpoint_finite x g = (setpoint binary64 (task x g)).sound

-- a number of the setpoint that isn't finite has the place of the first substep after the rows, also where no step brakes, and all entries before it are written
abbrev pub SetpointPlaced : Call → Gains → Type 0
SetpointPlaced x g = ((k : ℕ) → k < rows_before x → finite_in x g k ≡ true) → setpoint_finite x g ≡ false → RefusedAt x (suc (rows_before x)) × Wrote x g (rows_before x)

-- with nothing left to run: no committed row, no braking step. The forecast computes the setpoint and the stop distance, and where they are finite it is feasible, with
-- infinite slack, wherever the arm stands
pub record NothingLeft (x : Call) (g : Gains) : Type 0 where
  pub feasible_anywhere : stop_finite x g ≡ true → answer x ≡ forecast_with 0 (inf false) true (stop binary64 (task x g)).value
  pub refused_at_one : stop_finite x g ≡ false → RefusedAt x 1
  -- the setpoint is made from the given start; with a box nothing is computed for it
  pub of_the_start : setpoint binary64 (task x g) ≡ inward binary64 (walls_at binary64 x.config) (plant_after x g 0).p (live x.config)
  pub box_computes_none : x.config.shape ≡ Box → setpoint_finite x g ≡ true

-- ---- a box

-- with a box the setpoint is the plant that the rows leave, each live axis clamped, and the forecast is that of a guard that knows no other shape: nothing of the setpoint is judged
pub record BoxForecast (x : Call) (g : Gains) : Type 0 where
  pub clamped_setpoint : setpoint binary64 (task x g) ≡ box_inward (walls_at binary64 x.config).lo (walls_at binary64 x.config).hi (followed binary64 (task x g) (rows_before x)).p (live x.config)
  pub substep_as_before : (k : ℕ) → finite_in x g k ≡ ((substep binary64 g (aim binary64 (task x g) k) (live x.config) (plant_after x g k)).sound && (box_slack binary64 (walls_at binary64 x.config).lo (walls_at binary64 x.config).hi (plant_after x g (suc k)).p (live x.config)).sound)
  pub slack_as_before : (k : ℕ) → slack_after x g k ≡ (box_slack binary64 (walls_at binary64 x.config).lo (walls_at binary64 x.config).hi (plant_after x g k).p (live x.config)).value
  pub stop_as_before : stop binary64 (task x g) ≡ stop_distance binary64 (plant_after x g 0) (plant_after x g (N x)) (live x.config)

-- ---- a disc

-- the computed distance from the centre after k substeps
abbrev pub distance_after : Call → Gains → Float → Float → ℕ → Float
distance_after x g cx cy k = (from_centre binary64 cx cy (plant_after x g k).p).value

-- an accepted forecast on a disc: what each entry says of the computed distance
pub record DiscForecast (x : Call) (g : Gains) (cx cy radius : Float) (k : ℕ) : Type 0 where
  -- with two live axes it is radius - distance, and not negative exactly where the distance is at most the radius
  pub radius_less_distance : live x.config ≡ 2 → slack_after x g (suc k) ≡ sub binary64 radius (distance_after x g cx cy (suc k))
  pub not_negative_exactly : live x.config ≡ 2 → le +0 (slack_after x g (suc k)) ≡ le (distance_after x g cx cy (suc k)) radius
  -- with more, it is not negative exactly where the distance is at most the radius and no further axis' distance to its walls is negative
  pub within_radius : lt (slack_after x g (suc k)) +0 ≡ false → le (distance_after x g cx cy (suc k)) radius ≡ true
  pub axes_inside : lt (slack_after x g (suc k)) +0 ≡ false → (j : ℕ) → 2 ≤ j → j < live x.config → lt (gap binary64 (walls_at binary64 x.config) (plant_after x g (suc k)).p j).value +0 ≡ false
  pub within_all :
      le (distance_after x g cx cy (suc k)) radius ≡ true
      → ((j : ℕ) → 2 ≤ j → j < live x.config → lt (gap binary64 (walls_at binary64 x.config) (plant_after x g (suc k)).p j).value +0 ≡ false)
      → lt (slack_after x g (suc k)) +0 ≡ false

-- the call with another number of braking steps and other lent entries
abbrev pub with_braking : FuseConfig → ControlSteps → FuseConfig
with_braking c b = braked_by c (record {
  kind = c.brake.kind;
  substeps = c.brake.substeps;
  commit = c.brake.commit;
  brake_steps = b;
  react_ticks = c.brake.react_ticks;
})

abbrev pub braked : Call → ControlSteps → List Float → Call
braked x b l = record {
  config = with_braking x.config b;
  tables = x.tables;
  position = x.position;
  velocity = x.velocity;
  rows = x.rows;
  header = x.header;
  from = x.from;
  lent = l;
}

-- the entries that a forecast of n entries wrote begin those of another
pub record Begins (n : ℕ) (x y : Call) : Type 0 where
  pub counted : n ≤ N y
  pub same : (k : ℕ) → k < n → at (entries x) k ≡ at (entries y) k

-- ---- inside the box

-- a number lies in the box of axis j
abbrev pub InBox : FuseConfig → ℕ → Float → Type 0
InBox c j x = (le (at (walls_at binary64 c).lo j) x ≡ true) × (le x (at (walls_at binary64 c).hi j) ≡ true)

-- the coordinates of a row that lie in their boxes: all of them or, in the mode that has the last command, those within pos_dim
abbrev pub bounded : FuseConfig → ℕ
bounded c = if takes_last c.gripper then live c else c.dim

-- each of them that brake writes, or hold, lies in its box, where it has one
abbrev pub BrakesInside : FuseConfig → Tables → List Float → List Float → List Float → List Float → Type 0
BrakesInside c t p v last l =
    (m : WallMasks) → brake_answer binary64 c t p v last (length l) ≡ Ok m → (j : ℕ) → j < bounded c → boxed c.shape j ≡ true → InBox c j (at (brake_output binary64 c t p v last l) j)

abbrev pub HoldsInside : FuseConfig → Tables → List Float → List Float → List Float → Type 0
HoldsInside c t p last l =
    (m : WallMasks) → hold_answer binary64 c t p last (length l) ≡ Ok m → (j : ℕ) → j < bounded c → boxed c.shape j ≡ true → InBox c j (at (hold_output binary64 c t p last l) j)

-- ---- the axes past pos_dim, in either mode of the gripper

-- a call that is accepted with the masks m in the mode that has the last command, and leaves out of l, beside what the same call answers and leaves in the Rust's mode, whatever is lent there as the last command
pub record InBothModes (c : FuseConfig) (last l : List Float) (m : WallMasks) (out : List Float) (answered : Result WallMasks Refusal) (left : List Float) : Type 0 where
  -- it is accepted there, too, and the same walls moved it
  pub accepted_there : answered ≡ Ok m
  -- past pos_dim a position kind has the last command's numbers, bit for bit
  pub keeps_last : is_position c.kind ≡ true → (j : ℕ) → c.pos_dim ≤ j → j < c.dim → at out j ≡ at last j
  -- within pos_dim the numbers are the same in both modes, and so is a velocity kind's whole row, and any kind's that has no axis past pos_dim
  pub same_within : (j : ℕ) → j < c.pos_dim → at out j ≡ at left j
  pub same_velocities : is_position c.kind ≡ false → out ≡ left
  pub same_without_axes_past : c.dim ≤ c.pos_dim → out ≡ left
  -- what is past dim is kept
  pub rest_kept : (j : ℕ) → c.dim ≤ j → at out j ≡ at l j
  pub as_long : length out ≡ length l

abbrev pub BrakesInBoth : FuseConfig → Tables → List Float → List Float → List Float → List Float → List Float → Type 0
BrakesInBoth c t p v last other l =
    let old = gripped_by c ToZero in
    (m : WallMasks) → brake_answer binary64 c t p v last (length l) ≡ Ok m → InBothModes c last l m (brake_output binary64 c t p v last l) (brake_answer binary64 old t p v other (length l)) (brake_output binary64 old t p v other l)

abbrev pub HoldsInBoth : FuseConfig → Tables → List Float → List Float → List Float → List Float → Type 0
HoldsInBoth c t p last other l =
    let old = gripped_by c ToZero in
    (m : WallMasks) → hold_answer binary64 c t p last (length l) ≡ Ok m → InBothModes c last l m (hold_output binary64 c t p last l) (hold_answer binary64 old t p other (length l)) (hold_output binary64 old t p other l)

-- what the mode that has the last command answers, new, beside the Rust's, old. Where the last command has dim numbers or more and each of all its numbers is finite it is the same, the masks or the refusal, 13 with them; else, where the
-- Rust's accepts, 11 or 12
pub record LastJudged (c : FuseConfig) (last : List Float) (old new : Result WallMasks Refusal) : Type 0 where
  pub where_fit : c.dim ≤ length last → some_not_finite last ≡ false → new ≡ old
  pub where_short : (m : WallMasks) → old ≡ Ok m → length last < c.dim → new ≡ Err (refused_for 11)
  pub where_not_finite : (m : WallMasks) → old ≡ Ok m → c.dim ≤ length last → some_not_finite last ≡ true → new ≡ Err (refused_for 12)
  pub enough_long : (m : WallMasks) → new ≡ Ok m → c.dim ≤ length last
  pub each_finite : (m : WallMasks) → new ≡ Ok m → some_not_finite last ≡ false

-- in the Rust's mode an entry answers and leaves what a guard does that has no mode: no last command is an argument
pub record AsWithoutMode (answered plain : Result WallMasks Refusal) (left bare : List Float) : Type 0 where
  pub same_answer : answered ≡ plain
  pub same_output : left ≡ bare

-- ---- which walls moved the row of brake or hold

-- what the masks of an accepted call say, m, beside the numbers that it leaves, out
pub record SentWalls (c : FuseConfig) (p : List Float) (m : WallMasks) (out : List Float) : Type 0 where
  -- no wall moves a velocity
  pub velocity_none : is_position c.kind ≡ false → m ≡ unmoved
  -- of a position kind: what its walls do to the position, on each of the first min(dim, pos_dim) axes
  pub each_axis : is_position c.kind ≡ true → (j : ℕ) → j < live c → AxisTold (walls_at binary64 c) (eight p 8) j m
  -- nothing past those axes, though the row may be moved there, too
  pub none_past : NoBitPast m (live c)
  -- a coordinate that the position lacks counts as 0.0
  pub where_it_has : (j : ℕ) → j < length p → j < 8 → at (eight p 8) j ≡ at p j
  pub where_it_lacks : (j : ℕ) → length p ≤ j → j < 8 → at (eight p 8) j ≡ +0
  -- an axis without a box has no bit, and stands where the pull onto the disc puts the position
  pub no_bit_without_a_box : (j : ℕ) → j < live c → boxed c.shape j ≡ false → (bit m.low j ≡ false) × (bit m.high j ≡ false)
  pub where_the_disc_puts_it : is_position c.kind ≡ true → (j : ℕ) → j < live c → boxed c.shape j ≡ false → at out j ≡ at (onto_disc binary64 c.shape (eight p 8)).value j
  -- one with a box stands on the wall whose bit is set, else where the position stood
  pub at_low_wall : is_position c.kind ≡ true → (j : ℕ) → j < live c → bit m.low j ≡ true → at out j ≡ at (walls_at binary64 c).lo j
  pub at_high_wall : is_position c.kind ≡ true → (j : ℕ) → j < live c → bit m.high j ≡ true → at out j ≡ at (walls_at binary64 c).hi j
  pub at_neither : is_position c.kind ≡ true → (j : ℕ) → j < live c → boxed c.shape j ≡ true → bit m.low j ≡ false → bit m.high j ≡ false → at out j ≡ at (eight p 8) j

-- ---- a feasible forecast is inside as numbers, and not only by rounded differences

-- after each substep that counts, each live axis that has a box lies in it, and on a disc the computed distance is at most the radius
pub record StaysInside (x : Call) (g : Gains) : Type 0 where
  pub in_its_box : (k : ℕ) → k < N x → (j : ℕ) → j < live x.config → boxed x.config.shape j ≡ true → InBox x.config j (at (plant_after x g (suc k)).p j)
  pub on_its_disc : (k : ℕ) → k < N x → (cx cy radius : Float) → x.config.shape ≡ Disc cx cy radius → T (fits binary64 radius) → le (distance_after x g cx cy (suc k)) radius ≡ true

-- ---- the margin of a round table without further axes: with another one the forecast, a run under one setpoint, brake and hold compute what they did

pub record MarginUnread (c : FuseConfig) (m : Float) : Type 0 where
  pub same_forecast : (p v rows : List Float) (k : Header) (from : ℕ) → forecast_of binary64 (margined_by c m) p v rows k from ≡ forecast_of binary64 c p v rows k from
  pub same_run : (a p v : List Float) (n : ℕ) → running binary64 (margined_by c m) a p v n ≡ running binary64 c a p v n
  pub same_brake : (p v last : List Float) → brake_sent binary64 (margined_by c m) p v last ≡ brake_sent binary64 c p v last
  pub same_hold : (p last : List Float) → hold_sent binary64 (margined_by c m) p last ≡ hold_sent binary64 c p last
  pub same_masks : (p : List Float) → masks_sent binary64 (margined_by c m) p ≡ masks_sent binary64 c p

-- ---- all of it

-- of two accepted forecasts that differ only in braking steps, the one with no more of them writes the beginning of what the other writes
abbrev pub ShorterBegins : Type 0
ShorterBegins =
    (x : Call) (g : Gains) → SecondOrder x g → (b : ControlSteps) (l : List Float) (m n : ℕ) (margin margin' : Float) (feasible feasible' : Bool) (stop stop' : Float)
    → answer x ≡ forecast_with m margin feasible stop → answer (braked x b l) ≡ forecast_with n margin' feasible' stop' → x.config.brake.brake_steps.0 ≤ b.0 → Begins (N x) x (braked x b l)

-- no slack after one substep or more is negative
abbrev pub NoneNegative : Call → Gains → Type 0
NoneNegative x g = (k : ℕ) → k < N x → lt (slack_after x g (suc k)) +0 ≡ false

abbrev pub FeasibleExactly : Type 0
FeasibleExactly =
    (x : Call) (g : Gains) → SecondOrder x g → (n : ℕ) (margin : Float) (feasible : Bool) (stop : Float) → answer x ≡ forecast_with n margin feasible stop
    → (feasible ≡ true → NoneNegative x g) × (NoneNegative x g → feasible ≡ true)

pub record Promised : Type 0 where
  pub demand_3_holds : (x : Call) (g : Gains) → SecondOrder x g → OnlyThirteen x → Demand3 x g
  pub setpoint_placed : (x : Call) (g : Gains) → SecondOrder x g → OnlyThirteen x → SetpointPlaced x g
  -- the margin, which moves walls, does not move a disc
  pub margin_leaves_the_disc : (c : FuseConfig) (x y radius m : Float) → c.shape ≡ Disc x y radius → c.pos_dim ≤ 2 → MarginUnread c m
  pub nothing_left : (x : Call) (g : Gains) → SecondOrder x g → OnlyThirteen x → N x ≡ 0 → NothingLeft x g
  pub box_forecast : (x : Call) (g : Gains) → x.config.shape ≡ Box → BoxForecast x g
  pub disc_forecast :
      (x : Call) (g : Gains) → SecondOrder x g → (n : ℕ) (margin : Float) (feasible : Bool) (stop : Float) → answer x ≡ forecast_with n margin feasible stop
      → (cx cy radius : Float) → x.config.shape ≡ Disc cx cy radius → T (fits binary64 radius) → (k : ℕ) → k < N x → DiscForecast x g cx cy radius k
  pub shorter_begins_longer : ShorterBegins
  pub feasible_exactly_where : FeasibleExactly
  pub feasible_is_inside : (x : Call) (g : Gains) → SecondOrder x g → (n : ℕ) (margin stop : Float) → answer x ≡ forecast_with n margin true stop → StaysInside x g
  pub brakes_inside : (c : FuseConfig) (t : Tables) → is_position c.kind ≡ true → (p v last l : List Float) → BrakesInside c t p v last l
  pub holds_inside : (c : FuseConfig) (t : Tables) → is_position c.kind ≡ true → (p last l : List Float) → HoldsInside c t p last l
  -- the gripper: both modes, what the last command is judged for in the one that has it, and the Rust's without one
  pub brakes_in_both : (c : FuseConfig) (t : Tables) → c.gripper ≡ LastCommand → (p v last other l : List Float) → BrakesInBoth c t p v last other l
  pub holds_in_both : (c : FuseConfig) (t : Tables) → c.gripper ≡ LastCommand → (p last other l : List Float) → HoldsInBoth c t p last other l
  pub brake_last_judged : (c : FuseConfig) (t : Tables) → c.gripper ≡ LastCommand → (p v last other : List Float) (room : ℕ) → LastJudged c last (brake_answer binary64 (gripped_by c ToZero) t p v other room) (brake_answer binary64 c t p v last room)
  pub hold_last_judged : (c : FuseConfig) (t : Tables) → c.gripper ≡ LastCommand → (p last other : List Float) (room : ℕ) → LastJudged c last (hold_answer binary64 (gripped_by c ToZero) t p other room) (hold_answer binary64 c t p last room)
  pub brake_as_the_rust : (c : FuseConfig) (t : Tables) → c.gripper ≡ ToZero → (p v last l : List Float)
      → AsWithoutMode (brake_answer binary64 c t p v last (length l)) (noMode.brake_answer binary64 c t p v (length l)) (brake_output binary64 c t p v last l) (noMode.brake_output binary64 c t p v l)
  pub hold_as_the_rust : (c : FuseConfig) (t : Tables) → c.gripper ≡ ToZero → (p last l : List Float)
      → AsWithoutMode (hold_answer binary64 c t p last (length l)) (noMode.hold_answer binary64 c t p (length l)) (hold_output binary64 c t p last l) (noMode.hold_output binary64 c t p l)
  -- with a box hold computes nothing, and is never refused with 13
  pub box_holds : (c : FuseConfig) (t : Tables) → c.shape ≡ Box → (p last : List Float) (room : ℕ) (r : Refusal) → hold_answer binary64 c t p last room ≡ Err r → r.number ≡ 13 → ⊥
  pub brake_walls : (c : FuseConfig) (t : Tables) (p v last l : List Float) (m : WallMasks) → brake_answer binary64 c t p v last (length l) ≡ Ok m → SentWalls c p m (brake_output binary64 c t p v last l)
  pub hold_walls : (c : FuseConfig) (t : Tables) (p last l : List Float) (m : WallMasks) → hold_answer binary64 c t p last (length l) ≡ Ok m → SentWalls c p m (hold_output binary64 c t p last l)
