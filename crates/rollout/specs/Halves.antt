-- Two halves make the whole (R7.19): m substeps under one setpoint, and n more from the plant that they lead to, are m + n substeps. What is promised of legs, over the format and over the
-- slack, and of the forecast, which is made of legs. The proofs are `proofs/Halves.antt`.
use Rattle.std.specs.Prelude.{ℕ, suc, ◌+◌, ◌*◌, ◌≤◌, ◌<◌, ◌≡◌, true, false, not, ◌&&◌, List, [], ◌++◌, T, length, Float}
use Rattle.std.specs.Float.{Format, inf}
use Rattle.std.specs.Float.Ieee.{eq, is_nan}
use Rattle.checked.specs.Each.{all, table}
use Rattle.checked.specs.Least.{lesser}
use Rattle.chunk.specs.Rule.{row_of}
use Rattle.envelope.specs.Steps.{substeps_of}
use Rattle.workspace.specs.declared.Shape.TheVariants.{Disc}
use Rattle.workspace.specs.Rule.{Walls, slack_in}
use Rattle.workspace.specs.AtBox.{box_slack}
use Rattle.course.specs.Plant.{State}
use Rattle.course.specs.Rows.{rows_left}
use Rattle.course.specs.Forecast.{Forecast, fine, slack_at, place_of, margin_of}
use Rattle.rollout.specs.Plant.{Gains, motion_at}
use Rattle.rollout.specs.Rule.{Task, row_substeps, total, setpoint, after, entry}
use Rattle.rollout.specs.Leg.{Leg, reached, leg}
use Rattle.rollout.specs.Of.{leg_to}

-- the slack entries, in a list
abbrev pub entries_of : Forecast → List Float
entries_of t = table (slack_at t) t.count

-- no number that is computed on the way is other than finite
abbrev pub AllFinite : Forecast → Type 0
AllFinite t = all (fine t) t.count ≡ true

-- ---- two halves

abbrev pub first : Format → Leg → State → ℕ → Forecast
first f g s m = leg f g s m

-- it starts where the first leads to
abbrev pub second : Format → Leg → State → ℕ → ℕ → Forecast
second f g s m n = leg f g (reached f g s m) n

abbrev pub whole : Format → Leg → State → ℕ → ℕ → Forecast
whole f g s m n = leg f g s (m + n)

pub record TwoHalves (f : Format) (g : Leg) (s : State) (m n : ℕ) : Type 0 where
  -- every axis of the plant, position and velocity
  pub same_plant : reached f g s (m + n) ≡ reached f g (reached f g s m) n
  pub same_entries : entries_of (whole f g s m n) ≡ entries_of (first f g s m) ++ entries_of (second f g s m n)
  -- the whole is finite where both halves are
  pub finite_together : all (fine (whole f g s m n)) (m + n) ≡ all (fine (first f g s m)) m && all (fine (second f g s m n)) n
  -- the least slack is the lesser of the two, with its bits in this order, and in the other equal to it as a number
  pub least_of_both : AllFinite (whole f g s m n) → margin_of (whole f g s m n) ≡ lesser (margin_of (first f g s m)) (margin_of (second f g s m n))
  pub either_order : AllFinite (whole f g s m n) → eq (lesser (margin_of (second f g s m n)) (margin_of (first f g s m))) (margin_of (whole f g s m n)) ≡ true
  -- the place of the first number that isn't finite: the first half's, else m more than the second half's; none where neither has one
  pub place_in_first : (k : ℕ) → place_of (first f g s m) ≡ suc k → place_of (whole f g s m n) ≡ suc k
  pub place_in_second : (k : ℕ) → place_of (first f g s m) ≡ 0 → place_of (second f g s m n) ≡ suc k → place_of (whole f g s m n) ≡ m + suc k
  pub no_place : place_of (first f g s m) ≡ 0 → place_of (second f g s m n) ≡ 0 → place_of (whole f g s m n) ≡ 0

-- no substeps: nothing changes, there is no entry, and the slack is infinite
pub record NoSubsteps (f : Format) (g : Leg) (s : State) : Type 0 where
  pub plant_stays : reached f g s 0 ≡ s
  pub no_entry : entries_of (leg f g s 0) ≡ []
  pub infinite_slack : margin_of (leg f g s 0) ≡ inf false
  pub nothing_fails : place_of (leg f g s 0) ≡ 0

-- the axes past the live ones stay, and the plant has no more and no fewer
pub record OthersStay (f : Format) (g : Leg) (s : State) (m : ℕ) : Type 0 where
  pub axis_stays : (j : ℕ) → g.n ≤ j → motion_at (reached f g s m) j ≡ motion_at s j
  pub as_many_places : length (reached f g s m).p ≡ length s.p
  pub as_many_rates : length (reached f g s m).v ≡ length s.v

-- ---- over the slack

-- a slack of which every number is finite is a number
abbrev pub Measures : Leg → Type 0
Measures g = (p : List Float) → (g.measure p).sound ≡ true → T (not (is_nan (g.measure p).value))

-- inside a box with these walls, and on a disc, where further axes have theirs
abbrev pub box_leg : Format → Gains → ℕ → List Float → List Float → List Float → Leg
box_leg f gains n aim lo hi = record { gains = gains; n = n; aim = aim; measure = λ (p : List Float). box_slack f lo hi p n }

abbrev pub disc_leg : Format → Gains → ℕ → List Float → Float → Float → Float → Walls → Leg
disc_leg f gains n aim x y radius w = record { gains = gains; n = n; aim = aim; measure = λ (p : List Float). slack_in f (Disc x y radius) w p n }

-- ---- the forecast is made of legs

-- one towards each row that is left, and one towards the setpoint that is made where they end
pub record MadeOfLegs (f : Format) (t : Task) : Type 0 where
  pub row_plant : (i j : ℕ) → i < (rows_left t.commit t.from).0 → j ≤ t.per.0
      → after f t (i * t.per.0 + j) ≡ reached f (leg_to f t (row_of t.rows t.horizon t.dim (t.from + i))) (after f t (i * t.per.0)) j
  pub row_entry : (i j : ℕ) → i < (rows_left t.commit t.from).0 → j < t.per.0
      → entry f t (i * t.per.0 + j) ≡ (leg f (leg_to f t (row_of t.rows t.horizon t.dim (t.from + i))) (after f t (i * t.per.0)) t.per.0).entry j
  pub braking_plant : (j : ℕ)
      → after f t (row_substeps t + j) ≡ reached f (leg_to f t (setpoint f t).value) (after f t (row_substeps t)) j
  pub braking_entry : (setpoint f t).sound ≡ true → (j m : ℕ)
      → entry f t (row_substeps t + j) ≡ (leg f (leg_to f t (setpoint f t).value) (after f t (row_substeps t)) m).entry j
  -- these are all: the rows' substeps, and those of the braking steps
  pub all_of_them : total t ≡ row_substeps t + substeps_of t.brake t.per

-- ---- all of it

pub record Promised (f : Format) : Type 0 where
  pub two_halves : (g : Leg) → Measures g → (s : State) (m n : ℕ) → TwoHalves f g s m n
  pub in_a_box : (gains : Gains) (axes : ℕ) (aim lo hi : List Float) (s : State) (m n : ℕ) → TwoHalves f (box_leg f gains axes aim lo hi) s m n
  pub on_a_disc : (gains : Gains) (axes : ℕ) (aim : List Float) (x y radius : Float) (w : Walls) (s : State) (m n : ℕ) → TwoHalves f (disc_leg f gains axes aim x y radius w) s m n
  pub no_substeps : (g : Leg) (s : State) → NoSubsteps f g s
  pub others_stay : (g : Leg) (s : State) (m : ℕ) → OthersStay f g s m
  pub made_of_legs : (t : Task) → MadeOfLegs f t
