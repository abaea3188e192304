-- The rules at the declared structs.
use Rattle.std.specs.Prelude.{ℕ, ◌≡◌, Bool, false, ◌&&◌, List, [], ◌∷◌, ltb, Float}
use Rattle.std.specs.Float.{Format}
use Rattle.std.specs.Float.Ieee.{add}
use Rattle.checked.specs.Each.{every}
use Rattle.workspace.specs.declared.Workspace.{Workspace}
use Rattle.workspace.specs.Of.{walls_of}
use Rattle.course.specs.declared.Course.{Course}
use Rattle.course.specs.declared.Plant.{Plant}
use Rattle.course.specs.declared.Run.{Run}
use Rattle.course.specs.Of.{state_of, CameAlong, left_of, shaped}
use Rattle.stopping.specs.declared.Arm.{Arm}
use Rattle.stopping.specs.Rule.{Task, reaction, gain, stand, forecast}
use Rattle.checked.specs.Finite.{finite}
use Rattle.checked.specs.declared.Reckoned.{Reckoned}

-- the sum of two reckoned numbers
abbrev pub sum_of : Format → Reckoned → Reckoned → Reckoned
sum_of f x y = record { value = add f x.value y.value; sound = x.sound && (y.sound && finite (add f x.value y.value)) }

abbrev pub task_of : Arm → ℕ → Workspace → Course → Plant → List Float → Task
task_of arm ticks w c s rows = record {
  arm = arm;
  react_ticks_of = ticks;
  walls = walls_of w;
  n = c.live;
  start = state_of s;
  rows = rows;
  horizon = c.horizon;
  dim = c.dim;
  from = c.from;
  commit = c.commit;
}

-- a run that goes no further than it has come
abbrev pub halted_at : Plant → Float → ℕ → Run
halted_at plant margin done = record { plant = plant; margin = margin; done = done; sound = false }

-- a run has come along k entries
abbrev pub Along : Format → Task → List Float → ℕ → Run → List Float → Type 0
Along f t l k r out = CameAlong (forecast f t) (stand f t) l k r out

-- the gain and the waiting time are the task's
pub record Under (f : Format) (t : Task) (g react : Float) : Type 0 where
  pub pull : (gain f t).value ≡ g
  pub delay : (reaction f t).value ≡ react

-- what a run needs of its course: its shape, and room for the start's entry and one a row
unfoldable pub roomy : Course → ℕ → ℕ → Bool
roomy c len room = every (shaped c len ∷ ltb (left_of c).0 room ∷ [])
