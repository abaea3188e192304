-- The rules at the declared structs, and what the contracts of a run cite.
use Rattle.std.specs.Prelude.{◌≡◌, Bool, false, List, [], ◌∷◌, ℕ, ◌*◌, leb, eqb, Float}
use Rattle.std.specs.Float.{inf}
use Rattle.checked.specs.Each.{all, over, every}
use Rattle.checked.specs.Least.{least}
use Rattle.envelope.specs.declared.ControlSteps.{ControlSteps}
use Rattle.course.specs.declared.Course.{Course}
use Rattle.course.specs.declared.Plant.{Plant}
use Rattle.course.specs.declared.Run.{Run}
use Rattle.course.specs.Plant.{State}
use Rattle.course.specs.Rows.{rows_left}
use Rattle.course.specs.Forecast.{Forecast, fine, slack_at, leading, leading_in}

abbrev pub state_of : Plant → State
state_of s = record { p = s.p; v = s.v }

abbrev pub plant_from : State → Plant
plant_from s = record { p = s.p; v = s.v }

-- A run has come along k entries of a forecast: it has written those before the first that isn't finite, and stands after the last written.
pub record CameAlong (t : Forecast) (stand : ℕ → State) (l : List Float) (k : ℕ) (r : Run) (out : List Float) : Type 0 where
  pub written : r.done ≡ leading (fine t) k
  pub whole : r.sound ≡ all (fine t) k
  pub stands : state_of r.plant ≡ stand r.done
  pub least : r.margin ≡ least (slack_at t) r.done
  pub entries : out ≡ over (slack_at t) l r.done

-- the control steps that a course has still committed
abbrev pub left_of : Course → ControlSteps
left_of c = rows_left c.commit c.from

-- what every run needs of its course: eight axes at most, within the rows' width; rows that are all there
unfoldable pub shaped : Course → ℕ → Bool
shaped c len = every (leb c.live 8 ∷ leb c.live c.dim ∷ leb 1 c.horizon ∷ eqb len (c.horizon * c.dim) ∷ [])

-- a run that did not start
abbrev pub no_run : Plant → Run
no_run s = record { plant = s; margin = inf false; done = 0; sound = false }

-- the whole run of a forecast, with where the plant stands after so many entries
abbrev pub run_of : Forecast → (ℕ → State) → Run
run_of t stand = record {
  plant = plant_from (stand (leading_in t));
  margin = least (slack_at t) (leading_in t);
  done = leading_in t;
  sound = all (fine t) t.count;
}
