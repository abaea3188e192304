-- The closed kinds of brake (R7.10, R7.11): the stopping radius at the start and at each committed row, and the slack that it leaves. Over the format.
use Rattle.std.specs.Prelude.{ℕ, zero, suc, ◌+◌, List, pos, Float}
use Rattle.std.specs.Float.{Format}
use Rattle.std.specs.Float.Ieee.{of_int}
use Rattle.checked.specs.Constants.{2! }
use Rattle.checked.specs.Each.{at}
use Rattle.checked.specs.Finite.{+0}
use Rattle.checked.specs.Checked.{Checked, ◌>>=◌, pure, plus, minus, times, divided, each}
use Rattle.fmath.specs.Norm.{norm, dist}
use Rattle.chunk.specs.Rule.{row_of}
use Rattle.envelope.specs.declared.ActionKind.{ActionKind}
use Rattle.envelope.specs.declared.ActionKind.TheVariants.{EePosition, EeDelta, JointPosition, JointVelocity, Other}
use Rattle.envelope.specs.declared.BrakeKind.{BrakeKind}
use Rattle.envelope.specs.declared.BrakeKind.TheVariants.{PdSecondOrder, FirstOrderDecay, BoundedAccel, JerkLimited, ZeroVelocityHold}
use Rattle.envelope.specs.declared.ControlSteps.{ControlSteps}
use Rattle.workspace.specs.Rule.{Walls, slack_r}
use Rattle.course.specs.Plant.{State}
use Rattle.course.specs.Forecast.{Forecast}
use Rattle.course.specs.Rows.{rows_left}
use Rattle.stopping.specs.declared.Arm.{Arm}

pub record Task : Type 0 where
  -- how it takes a row and brakes, the control period, the greatest acceleration and jerk; and the ticks that pass before it brakes
  pub arm : Arm
  pub react_ticks_of : ℕ
  pub walls : Walls
  -- the live axes
  pub n : ℕ
  pub start : State
  -- the chunk: its rows, their number and their width
  pub rows : List Float
  pub horizon : ℕ
  pub dim : ℕ
  -- the row to start from, and the control steps that are committed
  pub from : ℕ
  pub commit : ControlSteps

-- the rows that it goes through
abbrev pub follows : Task → ℕ
follows t = (rows_left t.commit t.from).0

-- the row of control step k, counted from 0
abbrev pub row_at : Task → ℕ → List Float
row_at t k = row_of t.rows t.horizon t.dim (t.from + k)

-- k_p / k_v
unfoldable pub ratio : Format → BrakeKind → Checked Float
ratio f (PdSecondOrder kp kv dt) = divided f kp kv
ratio f (FirstOrderDecay kp kv dt) = divided f kp kv
ratio f (BoundedAccel kp kv dt) = divided f kp kv
ratio f (JerkLimited kp kv dt) = divided f kp kv
ratio f (ZeroVelocityHold kp kv dt) = divided f kp kv

-- s s / (2 a)
unfoldable pub ramp : Format → Float → Float → Checked Float
ramp f a s = do
  square ← times f s s
  twice ← times f 2! a
  divided f square twice

-- s a / (2 j)
unfoldable pub ease : Format → Float → Float → Float → Checked Float
ease f a j s = do
  product ← times f s a
  twice ← times f 2! j
  divided f product twice

-- how far the arm travels from speed s while it brakes
unfoldable pub d_stop : Format → BrakeKind → Float → Float → Float → Checked Float
d_stop f (PdSecondOrder kp kv dt) a j s = pure +0
d_stop f (FirstOrderDecay kp kv dt) a j s = divided f s kv
d_stop f (BoundedAccel kp kv dt) a j s = ramp f a s
d_stop f (JerkLimited kp kv dt) a j s = do
  x ← ramp f a s
  y ← ease f a j s
  plus f x y
d_stop f (ZeroVelocityHold kp kv dt) a j s = ramp f a s

-- the stopping radius at velocity v, where `react` passes before braking starts
unfoldable pub radius : Format → BrakeKind → Float → Float → Float → List Float → ℕ → Checked Float
radius f brake a j react v n = do
  s ← norm f v n
  d ← d_stop f brake a j s
  w ← times f s react
  plus f d w

-- the velocity that a row commands on one axis: itself, a displacement over dt, or a pull of gain g towards a position
unfoldable pub commanded : Format → ActionKind → Float → Float → Float → Float → Checked Float
commanded f JointVelocity dt g a p = pure a
commanded f EeDelta dt g a p = divided f a dt
commanded f EePosition dt g a p = minus f a p >>= times f g
commanded f JointPosition dt g a p = minus f a p >>= times f g
commanded f Other dt g a p = minus f a p >>= times f g

-- the velocities that a row commands on the first n axes
unfoldable pub command : Format → ActionKind → Float → Float → List Float → State → ℕ → Checked (List Float)
command f kind dt g a s n = each (λ (j : ℕ). commanded f kind dt g (at a j) (at s.p j)) s.v n

-- one Euler step of one axis
unfoldable pub moved : Format → Float → Float → Float → Checked Float
moved f dt v p = do
  d ← times f v dt
  plus f p d

-- one Euler step of the first n axes
unfoldable pub step : Format → Float → List Float → List Float → ℕ → Checked (List Float)
step f dt v p n = each (λ (j : ℕ). moved f dt (at v j) (at p j)) p n

-- how far the plant has moved from the start to the end, and may still travel
unfoldable pub stop_distance : Format → Arm → Float → State → State → ℕ → Checked Float
stop_distance f arm react start end n = do
  d ← dist f end.p start.p n
  r ← radius f arm.brake arm.a_max arm.j_max react end.v n
  plus f d r

module _ (f : Format) (t : Task) where
  -- the time before braking starts
  unfoldable pub reaction : Checked Float
  reaction = times f (of_int f (pos t.react_ticks_of)) t.arm.dt

  abbrev pub gain : Checked Float
  gain = ratio f t.arm.brake

  abbrev pub radius_at : List Float → Checked Float
  radius_at v = radius f t.arm.brake t.arm.a_max t.arm.j_max reaction.value v t.n

  abbrev pub command_at : ℕ → State → Checked (List Float)
  command_at k s = command f t.arm.kind t.arm.dt gain.value (row_at t k) s t.n

  abbrev pub step_at : List Float → List Float → Checked (List Float)
  step_at v p = step f t.arm.dt v p t.n

  -- the plant after k rows
  unfoldable pub after : ℕ → State
  after zero = t.start
  after (suc k) = record {
    p = (step_at (command_at k (after k)).value (after k).p).value;
    v = (command_at k (after k)).value;
  }

  -- the start's entry, and then one for each row
  unfoldable pub entry : ℕ → Checked Float
  entry zero = do
    react ← reaction
    g ← gain
    r ← radius_at t.start.v
    slack_r f t.walls r t.start.p t.n
  entry (suc k) = do
    v ← command_at k (after k)
    r ← radius_at v
    s ← slack_r f t.walls r (after k).p t.n
    p ← step_at v (after k).p
    pure s

  -- where the plant stands after so many entries
  unfoldable pub stand : ℕ → State
  stand zero = t.start
  stand (suc k) = after k

  abbrev pub stop : Checked Float
  stop = stop_distance f t.arm reaction.value t.start (after (follows t)) t.n

  abbrev pub forecast : Forecast
  forecast = record { count = suc (follows t); entry = entry; stop = stop }
