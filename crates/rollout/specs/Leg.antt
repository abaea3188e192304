-- A leg: substeps under one setpoint from a given plant, and the slack after each (R7.18). Over the format, and over the slack.
use Rattle.std.specs.Prelude.{ℕ, zero, suc, List, Float}
use Rattle.std.specs.Float.{Format}
use Rattle.checked.specs.Finite.{+0}
use Rattle.checked.specs.Checked.{Checked, ◌>>=◌, pure}
use Rattle.workspace.specs.Rule.{Walls, slack}
use Rattle.course.specs.Plant.{State}
use Rattle.course.specs.Forecast.{Forecast}
use Rattle.rollout.specs.Plant.{Gains, substep}

pub record Leg : Type 0 where
  pub gains : Gains
  -- the live axes
  pub n : ℕ
  -- the setpoint
  pub aim : List Float
  -- the slack of a plant that stands there
  pub measure : List Float → Checked Float

-- a leg in a workspace
abbrev pub leg_in : Format → Gains → Walls → ℕ → List Float → Leg
leg_in f gains w n aim = record { gains = gains; n = n; aim = aim; measure = λ (p : List Float). slack f w p n }

module _ (f : Format) (g : Leg) where
  -- one substep from a plant
  abbrev pub step : State → Checked State
  step s = substep f g.gains g.aim g.n s

  -- a substep and the slack after it
  unfoldable pub stepped : State → Checked Float
  stepped s = do
    q ← step s
    g.measure q.p

  -- the plant after k substeps from s
  unfoldable pub reached : State → ℕ → State
  reached s zero = s
  reached s (suc k) = (step (reached s k)).value

  -- m substeps from s: entry k, counted from 0, is substep k + 1 and its slack. No setpoint is made, and no stop distance
  abbrev pub leg : State → ℕ → Forecast
  leg s m = record { count = m; entry = λ (k : ℕ). stepped (reached s k); stop = pure +0 }
