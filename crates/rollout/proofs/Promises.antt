-- What the second-order forecast promises, as theorems about the rule, over the format.
use mathlib.Core.Path.{◌≡◌, refl, sym, ap, ◌∙◌, subst}
use mathlib.Core.Bool.{true, false}
use mathlib.Core.List.{List}
use Prim.Native.Nat.{ℕ, zero, suc, ◌+◌, ◌-◌, ◌*◌, ◌≤◌, ◌<◌}
use native.Mathlib.Nat.{lt_of_not-le}
use native.Mathlib.Decide.{dec_le}
use native.Mathlib.Omega.{arith}
use lib.Dec.{T, ltb}
use lib.ListN.{length, set, get_or-eq_default}
use lib.Seq.{set_out, get_or-set_same, get_or-set_other}
use lib.Ieee.{Float, Format, nan, lt, le, fits, mul}
use lib.Ieee.Fits.{nan-fits, add-fits}
use Rattle.std.specs.Prelude.{if◌then◌else◌}
use Rattle.checked.specs.Each.{at}
use Rattle.checked.specs.Finite.{+0}
use Rattle.checked.specs.Checked.{Checked, pure}
use Rattle.checked.proofs.Each.{all_at, and_right}
use Rattle.checked.proofs.Ordered.{Real}
use Rattle.envelope.specs.declared.ControlSteps.{ControlSteps}
use Rattle.workspace.specs.declared.Shape.{Shape}
use Rattle.workspace.specs.declared.Shape.TheVariants.{Disc}
use Rattle.workspace.specs.Shape.{boxed}
use Rattle.workspace.specs.Rule.{from_centre, slack_in, slack, inward}
use Rattle.workspace.proofs.Slacks.{slack_real, above-the-low-wall, below-the-high-wall, on_the_disc}
use Rattle.rollout.specs.Plant.{Gains, motion_at, axis, substep}
use Rattle.course.specs.Plant.{State}
use Rattle.course.specs.Forecast.{fine, slack_at, feasible_of}
use Rattle.rollout.specs.Rule.{Task, row_substeps, row_at, total, followed, setpoint, aimed, aim, after, entry, forecast}
use Rattle.course.proofs.Entries.{Whole, feasible_none_negative}

module _ (f : Format) (t : Task) where
  -- N: the control steps still committed, plus the braking steps, times the substeps
  pub count_is_n : (forecast f t).count ≡ (t.commit.0 - t.from + t.brake.0) * t.per.0
  count_is_n = refl

  -- the k-th entry (counted from 1) is the slack of the plant after k substeps from the given start
  pub entry_is_slack : (k : ℕ) → slack_at (forecast f t) k ≡ (slack f t.walls (after f t (suc k)).p t.n).value
  unfolding entry after
  entry_is_slack k = refl

  pub fine_slack : (k : ℕ) → fine (forecast f t) k ≡ true → (slack f t.walls (after f t (suc k)).p t.n).sound ≡ true
  unfolding entry after
  fine_slack k h = and_right (substep f t.gains (aim f t k) t.n (after f t k)).sound _ (and_right (aimed f t k).sound _ h)

  pub entries_real : (k : ℕ) → fine (forecast f t) k ≡ true → Real (slack_at (forecast f t) k)
  entries_real k h = subst Real (sym (entry_is_slack k)) (slack_real f t.walls (after f t (suc k)).p t.walls.shape t.n (fine_slack k h))

-- two tasks that differ only in braking steps
abbrev pub braking : Task → ControlSteps → Task
braking t b = record {
  gains = t.gains;
  walls = t.walls;
  n = t.n;
  start = t.start;
  rows = t.rows;
  horizon = t.horizon;
  dim = t.dim;
  from = t.from;
  commit = t.commit;
  brake = b;
  per = t.per;
}

module _ (f : Format) (t : Task) (b : ControlSteps) where
  same_pushed : (k : ℕ) → followed f (braking t b) k ≡ followed f t k
  unfolding followed
  same_pushed zero = refl
  same_pushed (suc k) = ap (λ (s : State). (substep f t.gains (row_at t k) t.n s).value) (same_pushed k)

  same_aim : (k : ℕ) → aimed f (braking t b) k ≡ aimed f t k
  unfolding aimed setpoint
  same_aim k = ap (λ (s : State). if ltb k (row_substeps t) then pure (row_at t k) else inward f t.walls s.p t.n) (same_pushed (row_substeps t))

  same_after : (k : ℕ) → after f (braking t b) k ≡ after f t k
  unfolding after
  same_after zero = refl
  same_after (suc k) =
      ap (λ (a : Checked (List Float)). (substep f t.gains a.value t.n (after f (braking t b) k)).value) (same_aim k)
      ∙ ap (λ (s : State). (substep f t.gains (aim f t k) t.n s).value) (same_after k)

  -- the shorter list begins the longer
  pub shorter_begins_longer : (k : ℕ) → slack_at (forecast f (braking t b)) k ≡ slack_at (forecast f t) k
  shorter_begins_longer k = entry_is_slack f (braking t b) k ∙ ap (λ (s : State). (slack f t.walls s.p t.n).value) (same_after (suc k)) ∙ sym (entry_is_slack f t k)

-- ---- inside the workspace, as numbers

-- what a substep computes is a number of the format
set_fits : (f : Format) (l : List Float) (i j : ℕ) (x : Float) → T (fits f x) → (j < i → T (fits f (at l j))) → j < suc i → T (fits f (at (set l i x) j))
set_fits f l i j x p rest b = go (dec_le i j)
  where
    there : Dec (length l ≤ i) → T (fits f (at (set l i x) i))
    there (yes o) = rw (set_out l i x o, get_or-eq_default l nan o) (nan-fits f)
    there (no o) = rw (get_or-set_same l i x nan (lt_of_not-le o)) p

    go : Dec (i ≤ j) → T (fits f (at (set l i x) j))
    go (yes o) = let e : j ≡ i = omega arith in rw e (there (dec_le (length l) i))
    go (no o) = let n : j < i = lt_of_not-le o in rw (get_or-set_other l i j x nan (λ e. omega arith)) (rest n)

substep_fits : (f : Format) (g : Gains) (a : List Float) (n : ℕ) (s : State) (j : ℕ) → j < n → T (fits f (at (substep f g a n s).value.p j))
unfolding substep axis
substep_fits f g a zero s j b = absurd (omega arith)
substep_fits f g a (suc n) s j b =
    let t = (substep f g a n s).value in
    let m = (axis f g (at a n) (motion_at t n)).value in
    set_fits f t.p n j m.p (add-fits f (at t.p n) (mul f m.v g.dt)) (substep_fits f g a n s j) b

-- a feasible forecast: after every substep each live axis that has a box is inside its walls as numbers, not only by rounded differences, and on a disc the computed distance
-- is at most the radius
module _ (f : Format) (t : Task) (whole : Whole (forecast f t)) (ok : feasible_of (forecast f t) ≡ true) (k : ℕ) (h : k < total t) where
  abbrev there : List Float
  there = (after f t (suc k)).p

  sound : (slack f t.walls there t.n).sound ≡ true
  sound = fine_slack f t k (all_at (fine (forecast f t)) (total t) whole k h)

  inside : lt (slack f t.walls there t.n).value +0 ≡ false
  inside =
      let real : (i : ℕ) → i < total t → Real (slack_at (forecast f t) i) = λ i c. entries_real f t i (all_at (fine (forecast f t)) (total t) whole i c) in
      subst (λ (v : Float). lt v +0 ≡ false) (entry_is_slack f t k) (feasible_none_negative (forecast f t) real ok k h)

  pub feasible_inside : (j : ℕ) → j < t.n → boxed t.walls.shape j ≡ true → T (fits f (at t.walls.lo j)) → T (fits f (at t.walls.hi j))
      → (le (at t.walls.lo j) (at there j) ≡ true) × (le (at there j) (at t.walls.hi j) ≡ true)
  unfolding after
  feasible_inside j b has y z =
      let x = substep_fits f t.gains (aim f t k) t.n (after f t k) j b in
      (above-the-low-wall f t.walls there t.walls.shape t.n sound inside j has b x y, below-the-high-wall f t.walls there t.walls.shape t.n sound inside j has b x z)

  pub feasible_on_disc : (x y radius : Float) → t.walls.shape ≡ Disc x y radius → T (fits f radius) → le (from_centre f x y there).value radius ≡ true
  feasible_on_disc x y radius e number =
      on_the_disc f t.walls there x y radius t.n
      (subst (λ (s : Shape). (slack_in f s t.walls there t.n).sound ≡ true) e sound)
      number
      (subst (λ (s : Shape). lt (slack_in f s t.walls there t.n).value +0 ≡ false) e inside)
