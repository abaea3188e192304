-- The plant and its substep: acc = k_p(a-p) - k_v v; v = v + acc dt; p = p + v dt with the new v (R7.1). Over the format.
use Rattle.std.specs.Prelude.{ℕ, zero, suc, List, set, Float}
use Rattle.std.specs.Float.{Format}
use Rattle.checked.specs.Each.{at}
use Rattle.checked.specs.Checked.{Checked, ◌>>=◌, pure, plus, minus, times}
use Rattle.course.specs.Plant.{State}

pub record Gains : Type 0 where
  pub kp : Float
  pub kv : Float
  pub dt : Float

-- where one axis is, and how fast it moves
pub record Motion : Type 0 where
  pub p : Float
  pub v : Float

-- one axis, towards the setpoint a
unfoldable pub axis : Format → Gains → Float → Motion → Checked Motion
axis f g a m = do
  e ← minus f a m.p
  pull ← times f g.kp e
  drag ← times f g.kv m.v
  acc ← minus f pull drag
  dv ← times f acc g.dt
  v ← plus f m.v dv
  dp ← times f v g.dt
  p ← plus f m.p dp
  pure (record { p = p; v = v })

abbrev pub motion_at : State → ℕ → Motion
motion_at s j = record { p = at s.p j; v = at s.v j }

-- the first n axes, each once
unfoldable pub substep : Format → Gains → List Float → ℕ → State → Checked State
substep f g a zero s = pure s
substep f g a (suc j) s = do
  t ← substep f g a j s
  m ← axis f g (at a j) (motion_at t j)
  pure (record { p = set t.p j m.p; v = set t.v j m.v })
