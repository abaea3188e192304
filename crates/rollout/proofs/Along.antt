-- One turn of a run under one setpoint: the substep and its slack are the next of the forecast, so the run comes along one entry more.
use mathlib.Core.Path.{◌≡◌, sym, ap, ◌∙◌, subst}
use mathlib.Core.Bool.{true, false}
use mathlib.Core.List.{List}
use Prim.Native.Nat.{ℕ, ◌+◌, ◌≤◌, ◌<◌}
use native.Mathlib.Nat.{add-zero, add_assoc}
use native.Mathlib.Numerals.{add-one}
use native.Mathlib.Omega.{arith}
use lib.ListN.{length, set}
use lib.Ieee.{Float, Format}
use Rattle.checked.specs.Each.{all}
use Rattle.checked.specs.Least.{lesser}
use Rattle.checked.specs.Checked.{Checked, pure}
use Rattle.checked.proofs.Each.{all_at, all_from}
use Rattle.workspace.specs.declared.Workspace.{Workspace}
use Rattle.checked.specs.declared.Reckoned.{Reckoned}
use Rattle.workspace.specs.Rule.{slack}
use Rattle.workspace.specs.Of.{walls_of}
use Rattle.checked.specs.Of.{reckoned_from}
use Rattle.rollout.specs.declared.Law.{Law}
use Rattle.course.specs.declared.Plant.{Plant}
use Rattle.course.specs.declared.Run.{Run}
use Rattle.rollout.specs.Plant.{substep}
use Rattle.course.specs.Plant.{State}
use Rattle.course.specs.Forecast.{Forecast, fine, slack_at}
use Rattle.rollout.specs.Rule.{Task, aimed, after, entry, forecast}
use Rattle.rollout.specs.Leg.{Leg, stepped}
use Rattle.rollout.specs.Of.{gains_of, leg_of, leg_to, StepOf, AlongLeg}
use Rattle.course.specs.Of.{state_of, CameAlong}
use Rattle.rollout.proofs.Told.{slack_tells}
use Rattle.course.proofs.Along.{along_fails, along_advances, stands_at}

-- a substep of a task is one of the leg towards what it goes towards
pub aimed_step : (f : Format) (t : Task) (k : ℕ) (a : List Float) → aimed f t k ≡ pure a → StepOf f (leg_to f t a) (forecast f t) (after f t) k
unfolding after entry stepped
aimed_step f t k a aims = record { moves = ap (λ (x : Checked (List Float)). (substep f t.gains x.value t.n (after f t k)).value) aims; measures = rw aims }

-- one turn of the run, from what its calls give
module _
    (f : Format) (t : Forecast) (stand : ℕ → State) (l : List Float) (k : ℕ) (r : Run) (out : List Float) (g : Law) (w : Workspace) (n : ℕ) (a : List Float)
    (h : CameAlong t stand l k r out) (go : AlongLeg f (leg_of f g w n a) t stand k 1 r) (s : r.sound ≡ true) (axes : n ≤ length r.plant.p)
    (next : Plant) (e : state_of next ≡ (substep f (gains_of g) a n (state_of r.plant)).value)
    (d : Reckoned) (v : d ≡ reckoned_from (slack f (walls_of w) next.p n)) where
  here : StepOf f (leg_of f g w n a) t stand k
  here = subst (λ (m : ℕ). StepOf f (leg_of f g w n a) t stand m) (add-zero k) (go s 0 (omega arith))

  from : state_of r.plant ≡ stand k
  from = stands_at t stand l k r out h s

  comes_to : state_of next ≡ stand (k + 1)
  comes_to = e ∙ ap (λ (q : State). (substep f (gains_of g) a n q).value) from ∙ sym here.moves ∙ ap stand (sym (add-one k))

  -- the slack that the code takes is the forecast's
  distance_is : d ≡ reckoned_from (slack f (walls_of w) (substep f (gains_of g) a n (state_of r.plant)).value.p n)
  distance_is = v ∙ ap (λ (x : State). reckoned_from (slack f (walls_of w) x.p n)) e

  entry_is : stepped f (leg_of f g w n a) (state_of r.plant) ≡ t.entry k
  entry_is = ap (stepped f (leg_of f g w n a)) from ∙ sym here.measures

  fine_is : d.sound ≡ fine t k
  unfolding stepped
  fine_is =
      ap (λ (x : Reckoned). x.sound) distance_is
      ∙ sym (slack_tells f (gains_of g) a (state_of r.plant) (walls_of w) n axes)
      ∙ ap (λ (x : Checked Float). x.sound) entry_is

  slack_is : d.value ≡ slack_at t k
  unfolding stepped
  slack_is = ap (λ (x : Reckoned). x.value) distance_is ∙ ap (λ (x : Checked Float). x.value) entry_is

  pub turn_fails : d.sound ≡ false → CameAlong t stand l (k + 1) (record { plant = r.plant; margin = r.margin; done = r.done; sound = false }) out
  turn_fails b = along_fails t stand l k r out h s (sym fine_is ∙ b)

  pub turn_advances : d.sound ≡ true → (m : Float) → m ≡ lesser r.margin d.value → CameAlong t stand l (k + 1) (record { plant = next; margin = m; done = r.done + 1; sound = true }) (set out r.done d.value)
  turn_advances b m c = along_advances t stand l k r out h s (sym fine_is ∙ b) next comes_to d.value slack_is m c

-- a run that still goes did so before, so its next entry is the leg's that it was given
pub legged_next : (f : Format) (g : Leg) (t : Forecast) (stand : ℕ → State) (l : List Float) (k count i : ℕ) (r₀ r : Run) (out₀ out : List Float)
    → CameAlong t stand l k r₀ out₀ → AlongLeg f g t stand k count r₀ → CameAlong t stand l (k + i) r out → i < count → AlongLeg f g t stand (k + i) 1 r
legged_next f g t stand l k count i r₀ r out₀ out h₀ go h b s j c =
    let all₀ : all (fine t) k ≡ true = all_from (fine t) k (λ m d. all_at (fine t) (k + i) (sym h.whole ∙ s) m (omega arith)) in
    subst (λ (m : ℕ). StepOf f g t stand m) (sym (add_assoc k i j)) (go (h₀.whole ∙ all₀) (i + j) (omega arith))
