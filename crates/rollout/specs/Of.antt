-- The rules at the declared structs, and what the contracts of the run cite.
use Rattle.std.specs.Prelude.{◌≡◌, Bool, true, ◌&&◌, List, [], ◌∷◌, ℕ, suc, ◌+◌, ◌<◌, leb, Float}
use Rattle.std.specs.Float.{Format}
use Rattle.checked.specs.Each.{at, over, every}
use Rattle.envelope.specs.Steps.{substeps_in}
use Rattle.workspace.specs.declared.Workspace.{Workspace}
use Rattle.workspace.specs.Of.{walls_of}
use Rattle.rollout.specs.declared.Moved.{Moved}
use Rattle.course.specs.declared.Course.{Course}
use Rattle.rollout.specs.declared.Law.{Law}
use Rattle.course.specs.declared.Plant.{Plant}
use Rattle.course.specs.declared.Run.{Run}
use Rattle.rollout.specs.Plant.{Gains, Motion}
use Rattle.course.specs.Plant.{State}
use Rattle.course.specs.Forecast.{Forecast}
use Rattle.course.specs.Of.{state_of, CameAlong, left_of, shaped, run_of}
use Rattle.rollout.specs.Rule.{Task, setpoint, after, forecast}
use Rattle.rollout.specs.Leg.{Leg, leg_in, step, stepped, leg, reached}

abbrev pub gains_of : Law → Gains
gains_of g = record { kp = g.k_p; kv = g.k_v; dt = g.dt }

abbrev pub moved_from : Motion → Moved
moved_from m = record { p = m.p; v = m.v }

-- the first n axes of one plant, the rest of the other
abbrev pub joined_of : Plant → Plant → ℕ → Plant
joined_of moved still n = record { p = over (at moved.p) still.p n; v = over (at moved.v) still.v n }

-- a run that has come so far, with its plant joined of two
abbrev pub ended_of : Plant → Plant → ℕ → Float → ℕ → Bool → Run
ended_of moved still n margin done sound = record { plant = joined_of moved still n; margin = margin; done = done; sound = sound }

abbrev pub task_of : Law → Workspace → Course → Plant → List Float → Task
task_of g w c s rows = record {
  gains = gains_of g;
  walls = walls_of w;
  n = c.live;
  start = state_of s;
  rows = rows;
  horizon = c.horizon;
  dim = c.dim;
  from = c.from;
  commit = c.commit;
  brake = c.brake;
  per = c.per;
}

-- a run has come along k entries of the second-order brake's forecast
abbrev pub Along : Format → Task → List Float → ℕ → Run → List Float → Type 0
Along f t l k r out = CameAlong (forecast f t) (after f t) l k r out

-- a leg towards a, in a workspace
abbrev pub leg_of : Format → Law → Workspace → ℕ → List Float → Leg
leg_of f g w n a = leg_in f (gains_of g) (walls_of w) n a

-- a leg of a task
abbrev pub leg_to : Format → Task → List Float → Leg
leg_to f t a = leg_in f t.gains t.walls t.n a

-- entry k of a forecast is the next substep of a leg, from where the plant stands
pub record StepOf (f : Format) (g : Leg) (t : Forecast) (stand : ℕ → State) (k : ℕ) : Type 0 where
  pub moves : stand (suc k) ≡ (step f g (stand k)).value
  pub measures : t.entry k ≡ stepped f g (stand k)

-- so are the next entries of a run, if it still goes
abbrev pub AlongLeg : Format → Leg → Forecast → (ℕ → State) → ℕ → ℕ → Run → Type 0
AlongLeg f g t stand k count r = r.sound ≡ true → (j : ℕ) → j < count → StepOf f g t stand (k + j)

-- the whole run: as far as its entries are finite, and sound where all are and the setpoint is
abbrev pub rolled_of : Format → Task → Run
rolled_of f t =
    let r = run_of (forecast f t) (after f t) in
    record { plant = r.plant; margin = r.margin; done = r.done; sound = r.sound && (setpoint f t).sound }

-- what the second-order run needs of it: its shape, a substep or more, room for its entries, and an axis or more
unfoldable pub roomy : Course → ℕ → ℕ → Bool
roomy c len room = every (shaped c len ∷ leb 1 c.per.0 ∷ leb (substeps_in (left_of c) c.brake c.per) room ∷ leb 1 c.live ∷ [])

-- the run of a leg: as far as its entries are finite
abbrev pub leg_run : Format → Leg → Plant → ℕ → Run
leg_run f g s count = run_of (leg f g (state_of s) count) (reached f g (state_of s))

-- what it needs: an axis or more and eight at most, each of which the setpoint has, and room for its entries
unfoldable pub leg_roomy : ℕ → ℕ → ℕ → ℕ → Bool
leg_roomy n len count room = every (leb 1 n ∷ leb n 8 ∷ leb n len ∷ leb count room ∷ [])
