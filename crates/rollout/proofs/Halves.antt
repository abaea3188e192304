-- Two halves make the whole, of every leg whose slack is a number where it is sound; a box and a disc have such slacks. The forecast is made of legs.
use Prim.Native.Nat.{ℕ, zero, suc, ◌+◌, ◌*◌, ◌≤◌, ◌<◌}
use mathlib.Core.Path.{◌≡◌, refl, sym, ap, ◌∙◌, subst}
use mathlib.Core.Bool.{Bool, true, false, ◌&&◌}
use mathlib.Core.List.{List, ◌++◌}
use native.Mathlib.Nat.{le_refl, add-zero, add-suc}
use native.Mathlib.Omega.{arith}
use lib.ListN.{length, set}
use lib.Ieee.{Float, Format, eq}
use Rattle.checked.specs.Each.{all, table}
use Rattle.checked.specs.Least.{lesser, least}
use Rattle.checked.specs.Checked.{Checked}
use Rattle.checked.proofs.Each.{◌&&≡◌, and_right, all_at, all_sum, table_sum}
use Rattle.checked.proofs.Extremes.{least_real, least_sum, lesser_either_way}
use Rattle.checked.proofs.Ordered.{Real}
use Rattle.workspace.specs.declared.Shape.TheVariants.{Box, Disc}
use Rattle.workspace.specs.Rule.{slack_in}
use Rattle.workspace.specs.AtBox.{box, box_slack}
use Rattle.workspace.proofs.Slacks.{slack_real}
use Rattle.course.specs.Plant.{State}
use Rattle.course.specs.Rows.{rows_left}
use Rattle.course.specs.Forecast.{Forecast, fine, slack_at, place_of, margin_of}
use Rattle.course.proofs.Entries.{first_failing_place, all_nowhere, nowhere_all, named}
use Rattle.chunk.specs.Rule.{row_of}
use Rattle.rollout.specs.Plant.{Motion, motion_at, substep}
use Rattle.rollout.specs.Rule.{Task, row_substeps, setpoint, after, forecast}
use Rattle.rollout.specs.Leg.{Leg, stepped, reached}
use Rattle.rollout.specs.Of.{leg_to, StepOf}
use Rattle.rollout.specs.Halves.{AllFinite, first, second, whole, TwoHalves, NoSubsteps, OthersStay, Measures, box_leg, disc_leg, MadeOfLegs, Promised}
use Rattle.rollout.proofs.Told.{put, untouched, length_kept}
use Rattle.rollout.proofs.Along.{aimed_step}
use Rattle.rollout.proofs.Rows.{aims_row, aims_setpoint}
use Rattle.rollout.proofs.Setpoint.{all_substeps}

-- ---- two halves

module _ (f : Format) (g : Leg) (s : State) (m : ℕ) where
  -- m substeps, and n more
  pub reached_sum : (n : ℕ) → reached f g s (m + n) ≡ reached f g (reached f g s m) n
  unfolding reached
  reached_sum zero = ap (reached f g s) (add-zero m)
  reached_sum (suc n) = ap (reached f g s) (add-suc m n) ∙ ap (λ (q : State). (substep f g.gains g.aim g.n q).value) (reached_sum n)

  entry_sum : (k : ℕ) → stepped f g (reached f g s (m + k)) ≡ stepped f g (reached f g (reached f g s m) k)
  entry_sum k = ap (stepped f g) (reached_sum k)

module _ (f : Format) (g : Leg) (s : State) (m n : ℕ) where
  abbrev here : Forecast
  here = first f g s m

  abbrev there : Forecast
  there = second f g s m n

  abbrev both : Forecast
  both = whole f g s m n

  slacks_after : (λ (k : ℕ). slack_at both (m + k)) ≡ slack_at there
  slacks_after = λ i k. (entry_sum f g s m k i).value

  fine_after : (λ (k : ℕ). fine both (m + k)) ≡ fine there
  fine_after = λ i k. (entry_sum f g s m k i).sound

  finite_both : all (fine both) (m + n) ≡ all (fine here) m && all (fine there) n
  finite_both = all_sum (fine both) m n ∙ ap (λ (p : ℕ → Bool). all (fine here) m && all p n) fine_after

  in_first : (k : ℕ) → place_of here ≡ suc k → place_of both ≡ suc k
  in_first k e = let w = named here refl k e in (first_failing_place both k (omega (arith, w.0)) w.1 w.2).0

  in_second : (k : ℕ) → place_of here ≡ 0 → place_of there ≡ suc k → place_of both ≡ m + suc k
  in_second k e h =
      let w = named there refl k h in
      let before : all (fine both) (m + k) ≡ true = all_sum (fine both) m k ∙ ap (λ (p : ℕ → Bool). all (fine here) m && all p k) fine_after ∙ (nowhere_all here refl e &&≡ w.1) in
      let fails : fine both (m + k) ≡ false = ap (λ (x : Checked Float). x.sound) (entry_sum f g s m k) ∙ w.2 in
      (first_failing_place both (m + k) (omega (arith, w.0)) before fails).0 ∙ sym (add-suc m k)

-- the least slack, where each number is finite
module _ (f : Format) (g : Leg) (s : State) (m n : ℕ) (measures : Measures g) (finite : AllFinite (whole f g s m n)) where
  real : (k : ℕ) → k < m + n → Real (slack_at (both f g s m n) k)
  unfolding stepped
  real k b = measures _ (and_right (substep f g.gains g.aim g.n (reached f g s k)).sound _ (all_at (fine (both f g s m n)) (m + n) finite k b))

  least_joined : margin_of (both f g s m n) ≡ lesser (margin_of (here f g s m n)) (margin_of (there f g s m n))
  unfolding margin_of
  least_joined = least_sum (slack_at (both f g s m n)) m n real ∙ ap (λ (h : ℕ → Float). lesser (least (slack_at (here f g s m n)) m) (least h n)) (slacks_after f g s m n)

  first_real : Real (margin_of (here f g s m n))
  unfolding margin_of
  first_real = least_real (slack_at (here f g s m n)) m (λ k b. real k (omega arith))

  second_real : Real (margin_of (there f g s m n))
  unfolding margin_of
  second_real = least_real (slack_at (there f g s m n)) n (λ k b. subst Real (ap (λ (x : Checked Float). x.value) (entry_sum f g s m k)) (real (m + k) (omega arith)))

  in_the_other_order : eq (lesser (margin_of (there f g s m n)) (margin_of (here f g s m n))) (margin_of (both f g s m n)) ≡ true
  in_the_other_order = ap (eq (lesser (margin_of (there f g s m n)) (margin_of (here f g s m n)))) least_joined ∙ lesser_either_way (margin_of (here f g s m n)) (margin_of (there f g s m n)) first_real second_real

pub halves : (f : Format) (g : Leg) (s : State) (m n : ℕ) → Measures g → TwoHalves f g s m n
halves f g s m n measures = record {
  same_plant = reached_sum f g s m n;
  same_entries = table_sum (slack_at (both f g s m n)) m n ∙ ap (λ (h : ℕ → Float). table (slack_at (here f g s m n)) m ++ table h n) (slacks_after f g s m n);
  finite_together = finite_both f g s m n;
  least_of_both = least_joined f g s m n measures;
  either_order = in_the_other_order f g s m n measures;
  place_in_first = in_first f g s m n;
  place_in_second = in_second f g s m n;
  no_place = λ e h. all_nowhere (both f g s m n) refl (finite_both f g s m n ∙ (nowhere_all (here f g s m n) refl e &&≡ nowhere_all (there f g s m n) refl h));
}

-- ---- no substeps, and the other axes

none : (f : Format) (g : Leg) (s : State) → NoSubsteps f g s
unfolding reached table margin_of least place_of all
none f g s = record { plant_stays = refl; no_entry = refl; infinite_slack = refl; nothing_fails = refl }

module _ (f : Format) (g : Leg) (s : State) where
  stays : (m j : ℕ) → g.n ≤ j → motion_at (reached f g s m) j ≡ motion_at s j
  unfolding reached
  stays zero j h = refl
  stays (suc m) j h = untouched f g.gains g.aim (reached f g s m) g.n j h ∙ stays m j h

  module _ (side : State → List Float) (part : Motion → Float) (puts : (r : State) (j : ℕ) (m : Motion) → side (put r j m) ≡ set (side r) j (part m)) where
    as_many : (m : ℕ) → length (side (reached f g s m)) ≡ length (side s)
    unfolding reached
    as_many zero = refl
    as_many (suc m) = length_kept f g.gains g.aim (reached f g s m) side part puts g.n ∙ as_many m

  pub others : (m : ℕ) → OthersStay f g s m
  others m = record {
    axis_stays = stays m;
    as_many_places = as_many (λ (r : State). r.p) (λ (x : Motion). x.p) (λ r j x. refl) m;
    as_many_rates = as_many (λ (r : State). r.v) (λ (x : Motion). x.v) (λ r j x. refl) m;
  }

-- ---- the forecast is made of legs

module _ (f : Format) (g : Leg) (t : Forecast) (stand : ℕ → State) (k count : ℕ) (steps : (j : ℕ) → j < count → StepOf f g t stand (k + j)) where
  stands : (j : ℕ) → j ≤ count → stand (k + j) ≡ reached f g (stand k) j
  unfolding reached
  stands zero b = ap stand (add-zero k)
  stands (suc j) b = ap stand (add-suc k j) ∙ (steps j b).moves ∙ ap (λ (q : State). (substep f g.gains g.aim g.n q).value) (stands j (omega arith))

  measured : (j : ℕ) → j < count → t.entry (k + j) ≡ stepped f g (reached f g (stand k) j)
  measured j b = (steps j b).measures ∙ ap (stepped f g) (stands j (omega arith))

module _ (f : Format) (t : Task) where
  to_row : (i : ℕ) → i < (rows_left t.commit t.from).0 → (j : ℕ) → j < t.per.0 → StepOf f (leg_to f t (row_of t.rows t.horizon t.dim (t.from + i))) (forecast f t) (after f t) (i * t.per.0 + j)
  to_row i h j b = aimed_step f t (i * t.per.0 + j) _ (aims_row f t i j h b)

  module _ (made : (setpoint f t).sound ≡ true) where
    to_setpoint : (j : ℕ) → StepOf f (leg_to f t (setpoint f t).value) (forecast f t) (after f t) (row_substeps t + j)
    to_setpoint j = aimed_step f t (row_substeps t + j) _ (aims_setpoint f t (row_substeps t + j) (omega arith) ∙ (λ i. record { value = (setpoint f t).value; sound = made i }))

  brakes : (j : ℕ) → after f t (row_substeps t + j) ≡ reached f (leg_to f t (setpoint f t).value) (after f t (row_substeps t)) j
  unfolding reached after
  brakes zero = ap (after f t) (add-zero (row_substeps t))
  brakes (suc j) =
      ap (after f t) (add-suc (row_substeps t) j)
      ∙ ap (λ (x : Checked (List Float)). (substep f t.gains x.value t.n (after f t (row_substeps t + j))).value) (aims_setpoint f t (row_substeps t + j) (omega arith))
      ∙ ap (λ (q : State). (substep f t.gains (setpoint f t).value t.n q).value) (brakes j)

  legs : MadeOfLegs f t
  legs = record {
    row_plant = λ i j h. stands f _ (forecast f t) (after f t) (i * t.per.0) t.per.0 (to_row i h) j;
    row_entry = λ i j h. measured f _ (forecast f t) (after f t) (i * t.per.0) t.per.0 (to_row i h) j;
    braking_plant = brakes;
    braking_entry = λ e j m. measured f _ (forecast f t) (after f t) (row_substeps t) (suc j) (λ i b. to_setpoint e i) j (le_refl (suc j));
    all_of_them = sym (all_substeps t);
  }

-- ---- all of it

pub promised : (f : Format) → Promised f
unfolding slack_in
promised f = record {
  two_halves = λ g measures s m n. halves f g s m n measures;
  in_a_box = λ gains axes aim lo hi s m n. halves f (box_leg f gains axes aim lo hi) s m n (box_measures lo hi axes);
  on_a_disc = λ gains axes aim x y radius w s m n. halves f (disc_leg f gains axes aim x y radius w) s m n (λ p. slack_real f w p (Disc x y radius) axes);
  no_substeps = none f;
  others_stay = others f;
  made_of_legs = legs f;
}
  where
    box_measures : (lo hi : List Float) (axes : ℕ) (p : List Float) → (box_slack f lo hi p axes).sound ≡ true → Real (box_slack f lo hi p axes).value
    box_measures lo hi axes p = slack_real f (box lo hi) p Box axes
