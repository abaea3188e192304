-- The second-order brake: the committed rows, then the setpoint inside the workspace, each held for its substeps; the slack after each substep.
use Rattle.std.specs.Prelude.{ℕ, zero, suc, ◌+◌, ◌/◌, List, ltb, Float, if◌then◌else◌}
use Rattle.std.specs.Float.{Format}
use Rattle.checked.specs.Finite.{+0}
use Rattle.checked.specs.Checked.{Checked, ◌>>=◌, pure, plus}
use Rattle.fmath.specs.Norm.{dist}
use Rattle.chunk.specs.Rule.{row_of}
use Rattle.envelope.specs.declared.ControlSteps.{ControlSteps}
use Rattle.envelope.specs.declared.Substeps.{Substeps}
use Rattle.envelope.specs.Steps.{substeps_of, substeps_in}
use Rattle.workspace.specs.Rule.{Walls, inward, slack}
use Rattle.rollout.specs.Plant.{Gains, substep}
use Rattle.course.specs.Plant.{State}
use Rattle.course.specs.Rows.{rows_left}
use Rattle.course.specs.Forecast.{Forecast}

pub record Task : Type 0 where
  pub gains : Gains
  pub walls : Walls
  -- the live axes
  pub n : ℕ
  pub start : State
  -- the chunk: its rows, their number and their width
  pub rows : List Float
  pub horizon : ℕ
  pub dim : ℕ
  -- the row to start from, the control steps that are committed, those of braking after them, and the substeps of each
  pub from : ℕ
  pub commit : ControlSteps
  pub brake : ControlSteps
  pub per : Substeps

-- the substeps under committed rows
abbrev pub row_substeps : Task → ℕ
row_substeps t = substeps_of (rows_left t.commit t.from) t.per

-- N
abbrev pub total : Task → ℕ
total t = substeps_in (rows_left t.commit t.from) t.brake t.per

-- the row that substep k, counted from 0, goes towards while rows are committed
abbrev pub row_at : Task → ℕ → List Float
row_at t k = row_of t.rows t.horizon t.dim (t.from + k / t.per.0)

-- how far the plant has moved from the start to the end; it travels no further
unfoldable pub stop_distance : Format → State → State → ℕ → Checked Float
stop_distance f start end n = do
  d ← dist f end.p start.p n
  plus f d +0

module _ (f : Format) (t : Task) where
  -- the plant after k substeps towards the rows
  unfoldable pub followed : ℕ → State
  followed zero = t.start
  followed (suc k) = (substep f t.gains (row_at t k) t.n (followed k)).value

  -- the braking setpoint: where the committed rows leave the plant, moved inside
  unfoldable pub setpoint : Checked (List Float)
  setpoint = inward f t.walls (followed (row_substeps t)).p t.n

  -- what substep k, counted from 0, goes towards
  unfoldable pub aimed : ℕ → Checked (List Float)
  aimed k = if ltb k (row_substeps t) then pure (row_at t k) else setpoint

  abbrev pub aim : ℕ → List Float
  aim k = (aimed k).value

  -- the plant after k substeps from the given start
  unfoldable pub after : ℕ → State
  after zero = t.start
  after (suc k) = (substep f t.gains (aim k) t.n (after k)).value

  -- entry k: substep k + 1 and its slack
  unfoldable pub entry : ℕ → Checked Float
  entry k = do
    a ← aimed k
    s ← substep f t.gains a t.n (after k)
    slack f t.walls s.p t.n

  -- the setpoint is made also where no braking step goes towards it
  unfoldable pub stop : Checked Float
  stop = do
    a ← setpoint
    stop_distance f t.start (after (total t)) t.n

  abbrev pub forecast : Forecast
  forecast = record { count = total t; entry = entry; stop = stop }
