-- A run under one setpoint at a configuration (R7.18): what it judges, what it answers, and what it leaves of the entries, the position and the velocity that are lent.
use Rattle.refusal.specs.declared.Refusal.{Refusal}
use Rattle.std.specs.Prelude.{ℕ, Bool, not, ◌||◌, List, [], ◌∷◌, ◌++◌, ltb, eqb, length, Float, Ok, Err, Result}
use Rattle.std.specs.Float.{Format}
use Rattle.refusal.specs.Order.{Judged, short, not_finite, computed, ◌when◌, refusal}
use Rattle.fmath.specs.Answer.{some_lent_not_finite}
use Rattle.conformal.specs.Rule.{Tables}
use Rattle.envelope.specs.Refusals.{config_judged}
use Rattle.envelope.specs.declared.BrakeKind.{BrakeKind}
use Rattle.envelope.specs.declared.BrakeKind.TheVariants.{PdSecondOrder, FirstOrderDecay, BoundedAccel, JerkLimited, ZeroVelocityHold}
use Rattle.envelope.specs.declared.FuseConfig.{FuseConfig}
use Rattle.course.specs.Plant.{State}
use Rattle.course.specs.Forecast.{Forecast, place_of, margin_of}
use Rattle.rollout.specs.Plant.{Gains}
use Rattle.rollout.specs.Leg.{Leg, leg_in, reached, leg}
use Rattle.brake.specs.declared.Ran.{Ran}
use Rattle.brake.specs.Rule.{live, walls_at, start_at}
use Rattle.brake.specs.Answer.{too_short, placed_or, decided_at, slacks_at, row_at}

-- the gains of whatever brake is configured
abbrev pub gains_in : BrakeKind → Gains
gains_in (PdSecondOrder kp kv dt) = record { kp = kp; kv = kv; dt = dt }
gains_in (FirstOrderDecay kp kv dt) = record { kp = kp; kv = kv; dt = dt }
gains_in (BoundedAccel kp kv dt) = record { kp = kp; kv = kv; dt = dt }
gains_in (JerkLimited kp kv dt) = record { kp = kp; kv = kv; dt = dt }
gains_in (ZeroVelocityHold kp kv dt) = record { kp = kp; kv = kv; dt = dt }

-- towards a setpoint, on the axes that move, inside the configuration's workspace
abbrev pub leg_at : Format → FuseConfig → List Float → Leg
leg_at f c a = leg_in f (gains_in c.brake.kind) (walls_at f c) (live c) a

-- 11: a setpoint below dim, a position or velocity below pos_dim, entries below n
unfoldable pub run_short : ℕ → ℕ → ℕ → ℕ → ℕ → ℕ → ℕ → Bool
run_short dim pos-dim a p v n room = ltb a dim || too_short pos-dim p v n room

-- a run that is accepted, with its entries and the least of them
abbrev pub ran_with : ℕ → Float → Result Ran Refusal
ran_with n margin = Ok (record { count = n; margin = margin })

-- what a run comes to: its count and its margin, or 13 with its place
unfoldable pub ran_to : Forecast → Result Ran Refusal
ran_to t = placed_or Err (ran_with t.count (margin_of t)) t

abbrev pub ran_at : ℕ → Forecast → Result Ran Refusal
ran_at k t = decided_at Err (ran_to t) k

-- n substeps towards a, from the position p and the velocity v
module _ (f : Format) (c : FuseConfig) (a p v : List Float) (n : ℕ) where
  abbrev pub running : Forecast
  running = leg f (leg_at f c a) (start_at c p v) n

  -- the plant at the end
  abbrev pub plant_at : State
  plant_at = reached f (leg_at f c a) (start_at c p v) n

  -- 11 and 12, where the entries have so much room
  abbrev pub run_lent : ℕ → List Judged
  run_lent room = (short when run_short c.dim c.pos_dim (length a) (length p) (length v) n room) ∷ (not_finite when some_lent_not_finite (a ∷ p ∷ v ∷ [])) ∷ []

module _ (f : Format) (c : FuseConfig) (t : Tables) (a p v : List Float) (n : ℕ) where
  unfoldable pub run_refusal : ℕ → ℕ
  run_refusal room = refusal (config_judged f c t ++ (run_lent f c a p v n room ++ (computed when not (eqb (place_of (running f c a p v n)) 0) ∷ [])))

  unfoldable pub run_answer : ℕ → Result Ran Refusal
  run_answer room = ran_at (run_refusal room) (running f c a p v n)

  -- the entries before the failing place are written, and none under another refusal
  unfoldable pub run_slacks : List Float → List Float
  run_slacks l = slacks_at (run_refusal (length l)) (running f c a p v n) l

  -- the first min(dim, pos_dim) numbers of position and velocity are the plant's where nothing is refused; the rest stays
  unfoldable pub run_position : ℕ → List Float
  run_position room = row_at (run_refusal room) (plant_at f c a p v n).p (live c) p

  unfoldable pub run_velocity : ℕ → List Float
  run_velocity room = row_at (run_refusal room) (plant_at f c a p v n).v (live c) v
