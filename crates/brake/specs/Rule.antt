-- Module 7 at a configuration: the forecast of its brake, and the rows that brake and hold send. Over the format.
use Rattle.std.specs.Prelude.{ℕ, min, Bool, true, false, ◌&&◌, List, ltb, leb, length, replicate, Float, if◌then◌else◌}
use Rattle.std.specs.Float.{Format}
use Rattle.checked.specs.Constants.{1!, eps}
use Rattle.checked.specs.Each.{at, over}
use Rattle.checked.specs.Finite.{+0}
use Rattle.checked.specs.Row.{eight}
use Rattle.checked.specs.Least.{greater}
use Rattle.checked.specs.Checked.{Checked, ◌>>=◌, pure, plus, minus, times, divided, each}
use Rattle.fmath.specs.Norm.{norm}
use Rattle.chunk.specs.declared.Header.{Header}
use Rattle.envelope.specs.Derive.{derived}
use Rattle.envelope.specs.declared.ActionKind.{ActionKind}
use Rattle.envelope.specs.declared.ActionKind.TheVariants.{EePosition, EeDelta, JointPosition, JointVelocity, Other}
use Rattle.envelope.specs.declared.BrakeKind.{BrakeKind}
use Rattle.envelope.specs.declared.BrakeKind.TheVariants.{PdSecondOrder, FirstOrderDecay, BoundedAccel, JerkLimited, ZeroVelocityHold}
use Rattle.envelope.specs.declared.FuseConfig.{FuseConfig}
use Rattle.envelope.specs.declared.Gripper.{Gripper}
use Rattle.envelope.specs.declared.Gripper.TheVariants.{ToZero, LastCommand}
use Rattle.workspace.specs.declared.WallMasks.{WallMasks}
use Rattle.workspace.specs.Rule.{Walls, setpoint, setpoint_masks, unmoved}
use Rattle.rollout.specs.Plant.{Gains}
use Rattle.course.specs.Plant.{State}
use Rattle.course.specs.Forecast.{Forecast}
use Rattle.rollout.specs.Rule as rollout
use Rattle.stopping.specs.declared.Arm.{Arm}
use Rattle.stopping.specs.Rule as stopping

-- the axes that move: those that the rows and the position both have
abbrev pub live : FuseConfig → ℕ
live c = min c.dim c.pos_dim

-- the shape, and the walls that are derived (R4)
abbrev pub walls_at : Format → FuseConfig → Walls
walls_at f c = record { shape = c.shape; lo = (derived f c).box_lo; hi = (derived f c).box_hi }

-- ---- the forecast

abbrev pub arm_of : FuseConfig → Arm
arm_of c = record { kind = c.kind; brake = c.brake.kind; dt = c.limits.dt; a_max = c.limits.a_max; j_max = c.limits.j_max }

-- the given start on the axes that move
abbrev pub start_at : FuseConfig → List Float → List Float → State
start_at c p v = record { p = eight p (live c); v = eight v (live c) }

module _ (f : Format) (c : FuseConfig) (p v rows : List Float) (k : Header) (from : ℕ) where
  abbrev pub second_order : Gains → rollout.Task
  second_order g = record {
    gains = g;
    walls = walls_at f c;
    n = live c;
    start = start_at c p v;
    rows = rows;
    horizon = k.horizon;
    dim = k.dim;
    from = from;
    commit = c.brake.commit;
    brake = c.brake.brake_steps;
    per = c.brake.substeps;
  }

  abbrev pub closed : stopping.Task
  closed = record {
    arm = arm_of c;
    react_ticks_of = c.brake.react_ticks;
    walls = walls_at f c;
    n = live c;
    start = start_at c p v;
    rows = rows;
    horizon = k.horizon;
    dim = k.dim;
    from = from;
    commit = c.brake.commit;
  }

  -- by the kind of brake
  unfoldable pub forecast_by : BrakeKind → Forecast
  forecast_by (PdSecondOrder kp kv dt) = rollout.forecast f (second_order (record { kp = kp; kv = kv; dt = dt }))
  forecast_by (FirstOrderDecay kp kv dt) = stopping.forecast f closed
  forecast_by (BoundedAccel kp kv dt) = stopping.forecast f closed
  forecast_by (JerkLimited kp kv dt) = stopping.forecast f closed
  forecast_by (ZeroVelocityHold kp kv dt) = stopping.forecast f closed

  abbrev pub forecast_of : Forecast
  forecast_of = forecast_by c.brake.kind

-- ---- brake and hold

-- the part of the velocity that one step of braking leaves: max(0, 1 - a_max dt / (|v| + eps))
unfoldable pub ramp : Format → Float → Float → List Float → ℕ → Checked Float
ramp f a dt v n = do
  s ← norm f v (min n (length v))
  loss ← times f a dt
  most ← plus f s eps
  part ← divided f loss most
  left ← minus f 1! part
  pure (greater +0 left)

-- coordinate j of the velocity times k, 0.0 where there is none
unfoldable pub scaled_at : Format → Float → List Float → ℕ → Checked Float
scaled_at f k v j = if ltb j (length v) then times f (at v j) k else pure +0

-- the first n coordinates of the velocity times k
unfoldable pub slowed : Format → Float → List Float → ℕ → Checked (List Float)
slowed f k v n = each (scaled_at f k v) (replicate 8 +0) n

-- a row of velocities that brakes
unfoldable pub slower : Format → Float → Float → List Float → ℕ → Checked (List Float)
slower f a dt v n = do
  k ← ramp f a dt v n
  slowed f k v n

-- a row of displacements that brakes: velocities times dt
unfoldable pub shorter : Format → Float → Float → List Float → ℕ → Checked (List Float)
shorter f a dt v n = do
  k ← ramp f a dt v n
  m ← times f k dt
  slowed f m v n

-- the row that brakes, by the kind of action
unfoldable pub brake_row : Format → ActionKind → Float → Float → Walls → List Float → List Float → ℕ → Checked (List Float)
brake_row f JointVelocity a dt w p v n = slower f a dt v n
brake_row f EeDelta a dt w p v n = shorter f a dt v n
brake_row f EePosition a dt w p v n = setpoint f w p n
brake_row f JointPosition a dt w p v n = setpoint f w p n
brake_row f Other a dt w p v n = setpoint f w p n

-- the row that holds: no velocity, or the latched position moved inside
unfoldable pub hold_row : Format → ActionKind → Walls → List Float → ℕ → Checked (List Float)
hold_row f JointVelocity w p n = pure (replicate 8 +0)
hold_row f EeDelta w p n = pure (replicate 8 +0)
hold_row f EePosition w p n = setpoint f w p n
hold_row f JointPosition w p n = setpoint f w p n
hold_row f Other w p n = setpoint f w p n

-- a position kind: none of the two kinds whose numbers are velocities or displacements
abbrev pub is_position : ActionKind → Bool
is_position EePosition = true
is_position EeDelta = false
is_position JointPosition = true
is_position JointVelocity = false
is_position Other = true

-- the mode in which the last command is an argument, of every kind of action and however many axes are past pos_dim
abbrev pub takes_last : Gripper → Bool
takes_last ToZero = false
takes_last LastCommand = true

-- coordinate j of what is sent: past pos_dim a position kind's is the last command's in that mode, and all else is the row's own
unfoldable pub sent_coordinate : Gripper → ActionKind → ℕ → List Float → List Float → ℕ → Float
sent_coordinate g k pos-dim last row j = if takes_last g && is_position k && leb pos-dim j then at last j else at row j

-- a row as it is sent, on its first n coordinates
unfoldable pub sent_row : Gripper → ActionKind → ℕ → List Float → List Float → ℕ → List Float
sent_row g k pos-dim last row n = over (sent_coordinate g k pos-dim last row) row n

-- the walls that move either row on its first n coordinates; none moves a velocity
unfoldable pub sent_masks : ActionKind → Walls → List Float → ℕ → WallMasks
sent_masks JointVelocity w p n = unmoved
sent_masks EeDelta w p n = unmoved
sent_masks EePosition w p n = setpoint_masks w p n
sent_masks JointPosition w p n = setpoint_masks w p n
sent_masks Other w p n = setpoint_masks w p n
