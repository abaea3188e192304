-- What is promised of `run_towards`, said of its answers and of what it leaves: of one call (R7.18); of two halves (R7.19), a first call of m substeps, a second of n from where the first leaves position and velocity,
-- and one of m + n from the start, at one configuration and towards one setpoint; and of the long forecast, which makes the same runs. The proofs are `proofs/Halves.antt`.
use Rattle.std.specs.Prelude.{ℕ, suc, ◌+◌, ◌*◌, ◌≤◌, ◌<◌, ◌≡◌, Bool, true, false, List, ◌++◌, length, take, drop, Float, Err, Result}
use Rattle.std.specs.Float.{binary64, inf}
use Rattle.std.specs.Float.Ieee.{lt, eq}
use Rattle.refusal.specs.declared.Refusal.{Refusal}
use Rattle.checked.specs.Each.{at, table}
use Rattle.checked.specs.Least.{lesser, least}
use Rattle.checked.specs.Checked.{Checked}
use Rattle.chunk.specs.Rule.{row_of}
use Rattle.conformal.specs.Rule.{Tables}
use Rattle.envelope.specs.declared.FuseConfig.{FuseConfig}
use Rattle.workspace.specs.declared.Shape.TheVariants.{Box, Disc}
use Rattle.workspace.specs.Rule.{slack}
use Rattle.course.specs.Plant.{State}
use Rattle.course.specs.Rows.{rows_left}
use Rattle.rollout.specs.Plant.{Gains}
use Rattle.rollout.specs.Rule.{row_substeps, setpoint, entry}
use Rattle.rollout.specs.Leg.{reached}
use Rattle.rollout.specs.Halves.{box_leg, disc_leg}
use Rattle.brake.specs.declared.Ran.{Ran}
use Rattle.brake.specs.Rule.{live, walls_at, start_at}
use Rattle.brake.specs.Towards.{gains_in, leg_at, running, run_answer, run_slacks, run_position, run_velocity, ran_with}
use Rattle.brake.specs.Promises as the-forecast

-- ---- a call

pub record RunCall : Type 0 where
  pub given_config : FuseConfig
  pub given_tables : Tables
  pub given_aim : List Float
  pub given_position : List Float
  pub given_velocity : List Float
  pub given_substeps : ℕ
  pub given_entries : List Float

-- what it answers, and what it leaves of the entries, the position and the velocity, as the entry's contract has them
abbrev pub told_by : RunCall → Result Ran Refusal
told_by x = run_answer binary64 x.given_config x.given_tables x.given_aim x.given_position x.given_velocity x.given_substeps (length x.given_entries)

abbrev pub slacks_left : RunCall → List Float
slacks_left x = run_slacks binary64 x.given_config x.given_tables x.given_aim x.given_position x.given_velocity x.given_substeps x.given_entries

abbrev pub position_left : RunCall → List Float
position_left x = run_position binary64 x.given_config x.given_tables x.given_aim x.given_position x.given_velocity x.given_substeps (length x.given_entries)

abbrev pub velocity_left : RunCall → List Float
velocity_left x = run_velocity binary64 x.given_config x.given_tables x.given_aim x.given_position x.given_velocity x.given_substeps (length x.given_entries)

-- refused with 13, naming a place
abbrev pub StopsAt : RunCall → ℕ → Type 0
StopsAt x place = told_by x ≡ Err (record { number = 13; place = place })

-- ---- what one call says

-- the plant after k substeps from the given start, and the slack that is taken there
abbrev pub plant_run : RunCall → ℕ → State
plant_run x k = reached binary64 (leg_at binary64 x.given_config x.given_aim) (start_at x.given_config x.given_position x.given_velocity) k

abbrev pub slack_run : RunCall → ℕ → Float
slack_run x k = (slack binary64 (walls_at binary64 x.given_config) (plant_run x k).p (live x.given_config)).value

-- accepted with a count and a margin: the count is that of the substeps, the k-th entry the slack after k of them and the margin the least entry; past the entries, and in position and
-- velocity past the axes that move, all is kept
pub record RanThrough (x : RunCall) (count : ℕ) (margin : Float) : Type 0 where
  pub ran_all : count ≡ x.given_substeps
  pub least_entry : margin ≡ least (λ (k : ℕ). slack_run x (suc k)) x.given_substeps
  pub room_enough : x.given_substeps ≤ length x.given_entries
  pub entries_ran : slacks_left x ≡ table (λ (k : ℕ). slack_run x (suc k)) x.given_substeps ++ drop x.given_substeps x.given_entries
  pub moved_to : (j : ℕ) → j < live x.given_config → (at (position_left x) j ≡ at (plant_run x x.given_substeps).p j) × (at (velocity_left x) j ≡ at (plant_run x x.given_substeps).v j)
  pub rest_unmoved : (j : ℕ) → live x.given_config ≤ j → (at (position_left x) j ≡ at x.given_position j) × (at (velocity_left x) j ≡ at x.given_velocity j)
  pub lengths_stay : (length (position_left x) ≡ length x.given_position) × (length (velocity_left x) ≡ length x.given_velocity)

-- refused with 13 at place k + 1: it is one of the substeps, the k entries before it are written, and nothing else
pub record StoppedAt (x : RunCall) (k : ℕ) : Type 0 where
  pub one_of_them : k < x.given_substeps
  pub room_for_them : x.given_substeps ≤ length x.given_entries
  pub entries_before : slacks_left x ≡ table (λ (j : ℕ). slack_run x (suc j)) k ++ drop k x.given_entries
  pub position_unmoved : position_left x ≡ x.given_position
  pub velocity_unmoved : velocity_left x ≡ x.given_velocity

-- substep k + 1 and its slack, and whether every number that they compute is finite
abbrev pub entry_of : RunCall → ℕ → Checked Float
entry_of x k = (running binary64 x.given_config x.given_aim x.given_position x.given_velocity x.given_substeps).entry k

abbrev pub finite_run : RunCall → ℕ → Bool
finite_run x k = (entry_of x k).sound

-- when a call that nothing else stops is accepted, and where it is refused: at the first substep with a number that isn't finite, which 13 names, and which no other refusal does
pub record ExactlyThere (x : RunCall) : Type 0 where
  pub accepted_is_finite : (count : ℕ) (margin : Float) → told_by x ≡ ran_with count margin → (k : ℕ) → k < x.given_substeps → finite_run x k ≡ true
  pub stopped_is_first : (k : ℕ) → StopsAt x (suc k) → ((j : ℕ) → j < k → finite_run x j ≡ true) × (finite_run x k ≡ false)
  pub thirteen_has_a_place : (r : Refusal) → told_by x ≡ Err r → r.number ≡ 13 → (k : ℕ) × (k < x.given_substeps) × StopsAt x (suc k)
  pub no_other_has : (r : Refusal) → told_by x ≡ Err r → (r.number ≡ 13 → ⊥) → r.place ≡ 0
  -- the margin is one of the slacks, and none is below it
  pub none_below_the_margin : (count : ℕ) (margin : Float) → told_by x ≡ ran_with count margin → (k : ℕ) → k < x.given_substeps → lt (slack_run x (suc k)) margin ≡ false
  pub margin_is_one : (count : ℕ) (margin : Float) → told_by x ≡ ran_with count margin → (m : ℕ) → x.given_substeps ≡ suc m → (k : ℕ) × (k < suc m) × (margin ≡ slack_run x (suc k))

-- no substeps: nothing changes, and the slack is infinite
pub record NothingRun (x : RunCall) (margin : Float) : Type 0 where
  pub infinite_slack : margin ≡ inf false
  pub entries_stay : slacks_left x ≡ x.given_entries
  pub position_as_given : position_left x ≡ x.given_position
  pub velocity_as_given : velocity_left x ≡ x.given_velocity

-- ---- two halves

-- n more from where a call leaves position and velocity
abbrev pub second : RunCall → ℕ → List Float → RunCall
second x n l = record {
  given_config = x.given_config;
  given_tables = x.given_tables;
  given_aim = x.given_aim;
  given_position = position_left x;
  given_velocity = velocity_left x;
  given_substeps = n;
  given_entries = l;
}

-- all at once
abbrev pub whole : RunCall → ℕ → List Float → RunCall
whole x n l = record {
  given_config = x.given_config;
  given_tables = x.given_tables;
  given_aim = x.given_aim;
  given_position = x.given_position;
  given_velocity = x.given_velocity;
  given_substeps = x.given_substeps + n;
  given_entries = l;
}

-- both halves are accepted, with the margins a and b: so is the whole, it leaves what the second leaves, its margin is the lesser of the two, and its entries are those of the first, those of the second, and what was lent
pub record Joined (x : RunCall) (n : ℕ) (l l' : List Float) (a b : Float) : Type 0 where
  pub whole_accepted : told_by (whole x n l') ≡ ran_with (x.given_substeps + n) (lesser a b)
  pub in_either_order : eq (lesser b a) (lesser a b) ≡ true
  pub same_position : position_left (whole x n l') ≡ position_left (second x n l)
  pub same_velocity : velocity_left (whole x n l') ≡ velocity_left (second x n l)
  pub entries_follow : slacks_left (whole x n l') ≡ take x.given_substeps (slacks_left x) ++ (take n (slacks_left (second x n l)) ++ drop (x.given_substeps + n) l')

-- refused in the first half: so is the whole, at the same place, with the same entries before it
pub record StoppedFirst (x : RunCall) (n : ℕ) (l' : List Float) (k : ℕ) : Type 0 where
  pub same_place : StopsAt (whole x n l') (suc k)
  pub entries_until : slacks_left (whole x n l') ≡ take k (slacks_left x) ++ drop k l'

-- refused in the second: so is the whole, as many places further on as the first has substeps
pub record StoppedLater (x : RunCall) (n : ℕ) (l l' : List Float) (k : ℕ) : Type 0 where
  pub place_moves_on : StopsAt (whole x n l') (x.given_substeps + suc k)
  pub entries_up_to : slacks_left (whole x n l') ≡ take x.given_substeps (slacks_left x) ++ (take k (slacks_left (second x n l)) ++ drop (x.given_substeps + k) l')

-- the second is lent the entries l, and the whole l'
pub record HalvesAnswered (x : RunCall) (n : ℕ) (l l' : List Float) : Type 0 where
  -- once the first is accepted, no refusal but 13 stops the second, and it has a place
  pub thirteen_alone : (m : ℕ) (a : Float) → told_by x ≡ ran_with m a → (r : Refusal) → told_by (second x n l) ≡ Err r → (k : ℕ) × (k < n) × StopsAt (second x n l) (suc k)
  -- where the whole is accepted, every number is finite, and so are both halves
  pub halves_accepted : x.given_substeps ≤ length x.given_entries → (k : ℕ) (c : Float) → told_by (whole x n l') ≡ ran_with k c
      → (a : Float) × (b : Float) × (told_by x ≡ ran_with x.given_substeps a) × (told_by (second x n l) ≡ ran_with n b)
  pub both_accepted : (m k : ℕ) (a b : Float) → told_by x ≡ ran_with m a → told_by (second x n l) ≡ ran_with k b → Joined x n l l' a b
  pub first_refused : (k : ℕ) → StopsAt x (suc k) → StoppedFirst x n l' k
  pub second_refused : (m k : ℕ) (a : Float) → told_by x ≡ ran_with m a → StopsAt (second x n l) (suc k) → StoppedLater x n l l' k

-- ---- the long forecast makes the same runs

-- a run from where the forecast stands after k substeps
abbrev pub run_from : the-forecast.Call → Gains → List Float → ℕ → ℕ → List Float → RunCall
run_from x g a k m l = record {
  given_config = x.config;
  given_tables = x.tables;
  given_aim = a;
  given_position = (the-forecast.plant_after x g k).p;
  given_velocity = (the-forecast.plant_after x g k).v;
  given_substeps = m;
  given_entries = l;
}

-- towards row i of those that are left, from where the rows before it lead to, and towards the setpoint from where they end
abbrev pub towards_row : the-forecast.Call → Gains → ℕ → List Float → RunCall
towards_row x g i l =
    run_from x g (row_of x.rows x.header.horizon x.header.dim (x.from + i)) (i * x.config.brake.substeps.0) x.config.brake.substeps.0 l

abbrev pub towards_setpoint : the-forecast.Call → Gains → ℕ → List Float → RunCall
towards_setpoint x g m l = run_from x g (setpoint binary64 (the-forecast.task x g)).value (row_substeps (the-forecast.task x g)) m l

-- its entries and its plants are those of runs towards each row that is left, from the plant that it has reached, and of one towards its setpoint from where the rows end
pub record MadeOfRuns (x : the-forecast.Call) (g : Gains) : Type 0 where
  pub row_run : (i j : ℕ) (l : List Float) → i < (rows_left x.config.brake.commit x.from).0 → j < x.config.brake.substeps.0
      → entry binary64 (the-forecast.task x g) (i * x.config.brake.substeps.0 + j) ≡ entry_of (towards_row x g i l) j
  pub row_end : (i j : ℕ) (l : List Float) → i < (rows_left x.config.brake.commit x.from).0 → j ≤ x.config.brake.substeps.0
      → the-forecast.plant_after x g (i * x.config.brake.substeps.0 + j) ≡ plant_run (towards_row x g i l) j
  pub braking_run : (setpoint binary64 (the-forecast.task x g)).sound ≡ true → (j m : ℕ) (l : List Float)
      → entry binary64 (the-forecast.task x g) (row_substeps (the-forecast.task x g) + j) ≡ entry_of (towards_setpoint x g m l) j
  pub braking_end : (j m : ℕ) (l : List Float) → the-forecast.plant_after x g (row_substeps (the-forecast.task x g) + j) ≡ plant_run (towards_setpoint x g m l) j

-- ---- the workspace

-- what is said of legs in a box and on a disc is said of the runs of a configuration that has one
pub record OfItsShape (c : FuseConfig) (a : List Float) : Type 0 where
  pub leg_in_a_box : c.shape ≡ Box → leg_at binary64 c a ≡ box_leg binary64 (gains_in c.brake.kind) (live c) a (walls_at binary64 c).lo (walls_at binary64 c).hi
  pub leg_on_a_disc : (x y radius : Float) → c.shape ≡ Disc x y radius → leg_at binary64 c a ≡ disc_leg binary64 (gains_in c.brake.kind) (live c) a x y radius (walls_at binary64 c)

-- ---- all of it

pub record HalvesPromised : Type 0 where
  pub when_accepted : (x : RunCall) (count : ℕ) (margin : Float) → told_by x ≡ ran_with count margin → RanThrough x count margin
  pub when_stopped : (x : RunCall) (k : ℕ) → StopsAt x (suc k) → StoppedAt x k
  pub exactly_there : (x : RunCall) → ExactlyThere x
  pub nothing_run : (x : RunCall) → x.given_substeps ≡ 0 → (count : ℕ) (margin : Float) → told_by x ≡ ran_with count margin → NothingRun x margin
  pub never_thirteen : (x : RunCall) → x.given_substeps ≡ 0 → (r : Refusal) → told_by x ≡ Err r → r.number ≡ 13 → ⊥
  -- where the entries that are lent to the second and to the whole have room
  pub halves_answered : (x : RunCall) (n : ℕ) (l l' : List Float) → n ≤ length l → x.given_substeps + n ≤ length l' → HalvesAnswered x n l l'
  pub of_its_shape : (c : FuseConfig) (a : List Float) → OfItsShape c a
  pub forecast_runs : (x : the-forecast.Call) (g : Gains) → the-forecast.SecondOrder x g → MadeOfRuns x g
