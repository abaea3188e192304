-- Demand 3 of the entry, and "a feasible forecast stays inside": the entry's answer and lent entries are what the second-order forecast comes to (`Foreseen`), and of a
-- forecast `rollout` has said where it reaches, what its entries are and what the least of them is.
use Rattle.std.specs.Prelude.{Err, Result, Ok}
use Rattle.refusal.specs.declared.Refusal.{Refusal}
use Prim.Native.Nat.{ℕ, zero, suc, ◌+◌, ◌-◌, ◌*◌, ◌≤◌, ◌<◌}
use mathlib.Core.Path.{◌≡◌, refl, sym, ap, ◌∙◌, subst}
use mathlib.Core.Bool.{Bool, true, false}
use mathlib.Core.List.{List, ◌++◌}
use mathlib.Core.Logic.{◌⊎◌, inl, inr}
use native.Mathlib.Nat.{add-zero, le_trans, mul-le-mul_right}
use native.Mathlib.Omega.{arith}
use borrow.Author.Tests.{eqb-true, eqb-false}
use lib.Dec.{T, eqb}
use lib.ListN.{length}
use lib.Ieee.{Float, binary64, inf, lt, le, fits}
use Rattle.refusal.specs.Order.{Judged, refusal, refused_for}
use Rattle.checked.specs.Each.{at, all}
use Rattle.checked.specs.Finite.{+0}
use Rattle.checked.specs.Checked.{Checked}
use Rattle.checked.proofs.Each.{all_at, all_from, length_over}
use Rattle.checked.proofs.Ordered.{Real}
use Rattle.chunk.specs.Refusals.{chunk_reasons}
use Rattle.envelope.specs.Refusals.{config_judged}
use Rattle.envelope.specs.declared.ControlSteps.{ControlSteps}
use Rattle.envelope.proofs.Walls.{low_wall_fits, high_wall_fits}
use Rattle.workspace.specs.declared.Shape.TheVariants.{Disc}
use Rattle.workspace.specs.Rule.{Walls, inward, slack}
use Rattle.workspace.specs.Promises.{disc}
use Rattle.workspace.proofs.Promises as shapes
use Rattle.rollout.specs.Plant.{Gains}
use Rattle.course.specs.Forecast.{Forecast, fine, slack_at, leading_in, margin_of, feasible_of, written_of}
use Rattle.rollout.specs.Rule.{Task, setpoint, entry, stop, forecast}
use Rattle.course.proofs.Leading.{leading_le, first_or_all}
use Rattle.course.proofs.Entries.{Whole, whole_leads, written_in_order, others_kept, first_failing_place, empty_margin, margin_attained, margin_least, feasible_none_negative, none_negative_feasible}
use Rattle.rollout.proofs.Rows.{aims_setpoint, setpoint_is}
use Rattle.rollout.proofs.Setpoint.{all_substeps}
use Rattle.rollout.proofs.Promises.{entry_is_slack, fine_slack, entries_real, braking, shorter_begins_longer, feasible_inside, feasible_on_disc}
use Rattle.brake.specs.declared.BrakeOut.{BrakeOut}
use Rattle.brake.specs.Answer.{plan, lent_judged, forecast_with}
use Rattle.brake.specs.Promises.{Call, answer, entries, OnlyThirteen, SecondOrder, N, task, slack_after, finite_in, stop_finite, AllFinite, FirstFailing, Wrote, Forecasts, RefusedAt, Demand3, rows_before, setpoint_finite, plant_after, SetpointPlaced, NothingLeft, DiscForecast, braked, Begins, StaysInside, Promised}
use Rattle.brake.specs.Rule.{live, walls_at}
use Rattle.brake.proofs.AtBox.{box_setpoint, box_forecast}
use Rattle.brake.proofs.Margin.{margin_unread}
use Rattle.brake.proofs.Sending.{hold_at_a_box}
use Rattle.brake.proofs.Boxed.{brake_inside, hold_inside}
use Rattle.brake.proofs.Modes.{brakes_in_both, holds_in_both, brake_last, hold_last, brake_as_rust, hold_as_rust}
use Rattle.brake.proofs.Walled.{brake_walls, hold_walls}
use Rattle.brake.proofs.ByKind.{count_is}
use Rattle.brake.proofs.Judged.{never, planned, refused}
use Rattle.brake.proofs.Foreseen.{slacks_are, accepted_answer, refused_answer, refused_at_the_end, second_order_plan, count_is_n}

-- a call that is accepted was stopped by no refusal
accepted_free : (x : Call) {n : ℕ} {margin : Float} {feasible : Bool} {stop : Float} → answer x ≡ forecast_with n margin feasible stop → OnlyThirteen x
accepted_free x a r e = let z : ◌≡◌ {A = ℕ} 0 1 = cc in absurd (omega arith)

-- what an answer says: the place of a refusal, and whether it is feasible
abbrev place_in : Result BrakeOut Refusal → ℕ
place_in (Ok o) = 0
place_in (Err r) = r.place

abbrev feasible_in : Result BrakeOut Refusal → Bool
feasible_in (Ok o) = o.feasible
feasible_in (Err r) = false

module _ (x : Call) where
  abbrev t : Forecast
  t = plan binary64 x.config x.position x.velocity x.rows x.header x.from

  abbrev before : List Judged
  before =
      config_judged binary64 x.config x.tables
      ++ (chunk_reasons x.header (length x.rows) ++ lent_judged binary64 x.config x.position x.velocity x.rows x.header x.from (length x.lent))

  -- where no refusal but 13 stops the call, nothing that is judged beforehand refuses it
  free : OnlyThirteen x → refusal before ≡ 0
  free only = go (eqb (refusal before) 0) refl
    where
      go : (b : Bool) → eqb (refusal before) 0 ≡ b → refusal before ≡ 0
      go true e = eqb-true (refusal before) 0 e
      go false e =
          let a = refused binary64 x.config x.tables x.position x.velocity x.rows x.header x.from x.lent refl (eqb-false (refusal before) 0 e) refl in
          absurd (never 13 before (λ o. omega arith) refl (only (refused_for (refusal before)) (sym a.gives)))

module _ (x : Call) (g : Gains) (is : SecondOrder x g) (only : OnlyThirteen x) where
  abbrev f : Forecast
  f = t x

  clear : refusal (before x) ≡ 0
  clear = free x only

  plan_is : f ≡ forecast binary64 (task x g)
  plan_is = second_order_plan binary64 x.config x.position x.velocity x.rows x.header x.from g.kp g.kv g.dt is

  is_n : f.count ≡ N x
  is_n = count_is_n binary64 x.config x.position x.velocity x.rows x.header x.from g.kp g.kv g.dt is

  room : f.count ≤ length x.lent
  room =
      rw (count_is binary64 x.config x.position x.velocity x.rows x.header x.from x.config.brake.kind)
      (planned binary64 x.config x.tables x.position x.velocity x.rows x.header x.from (length x.lent) clear).space

  entries_are : entries x ≡ written_of f x.lent
  entries_are = slacks_are binary64 x.config x.tables x.position x.velocity x.rows x.header x.from x.lent clear

  fine_is : (k : ℕ) → fine f k ≡ finite_in x g k
  fine_is k = ap (λ (y : Forecast). fine y k) plan_is

  slack_is : (k : ℕ) → slack_at f k ≡ slack_after x g (suc k)
  slack_is k = ap (λ (y : Forecast). slack_at y k) plan_is ∙ entry_is_slack binary64 (task x g) k

  whole : ((k : ℕ) → k < N x → finite_in x g k ≡ true) → Whole f
  whole h = all_from (fine f) f.count (λ k b. fine_is k ∙ h k (rw (← is_n) b))

  wrote_length : length (entries x) ≡ length x.lent
  unfolding written_of
  wrote_length = ap length entries_are ∙ length_over (slack_at f) x.lent (leading_in f)

  wrote : (n : ℕ) → leading_in f ≡ n → Wrote x g n
  wrote n e =
      let enough : n ≤ length x.lent = le_trans (rw (← e) (leading_le (fine f) f.count)) room in
      record {
        enough_room = enough;
        kth = λ k b. ap (λ (l : List Float). at l k) entries_are ∙ written_in_order f x.lent k (rw e b) (omega arith) ∙ slack_is k;
        past_kept = λ k b. ap (λ (l : List Float). at l k) entries_are ∙ others_kept f x.lent k (rw e b);
        length_kept = wrote_length;
      }

  wrote_all : Whole f → Wrote x g (N x)
  wrote_all w = wrote (N x) (whole_leads f w ∙ is_n)

  report : Whole f → f.stop.sound ≡ true → answer x ≡ forecast_with f.count (margin_of f) (feasible_of f) f.stop.value
  report w s = accepted_answer binary64 x.config x.tables x.position x.velocity x.rows x.header x.from x.lent clear w s

  module _ (w : Whole f) where
    entry_at : (k : ℕ) → k < N x → at (entries x) k ≡ slack_at f k
    entry_at k b = (wrote_all w).kth k b ∙ sym (slack_is k)

    real : (k : ℕ) → k < f.count → Real (slack_at f k)
    real k b = subst (λ (y : Forecast). Real (slack_at y k)) (sym plan_is) (entries_real binary64 (task x g) k (sym (fine_is k) ∙ all_at (fine f) f.count w k b))

    attained : (n : ℕ) → f.count ≡ n → 0 < n → (k : ℕ) × (k < N x) × (margin_of f ≡ at (entries x) k)
    attained zero e b = absurd (omega arith)
    attained (suc n) e b =
        let a = margin_attained f n e in
        let c : a.0 < N x = subst (λ (z : ℕ). a.0 < z) (sym e ∙ is_n) a.1 in
        (a.0, c, a.2 ∙ sym (entry_at a.0 c))

    forecasts : f.stop.sound ≡ true → Forecasts x g
    forecasts s = record {
      margin = margin_of f;
      feasible = feasible_of f;
      reports_n = report w s ∙ rw (is_n, ap (λ (y : Forecast). y.stop.value) plan_is);
      wrote = wrote_all w;
      margin_least = λ k b. ap (λ (y : Float). lt y (margin_of f)) (entry_at k b) ∙ margin_least f real k (rw is_n b);
      margin_attained = λ b. attained f.count refl (rw is_n b);
      margin_of_none = λ e. empty_margin f (is_n ∙ e);
      feasible_only = λ y k b. ap (λ (z : Float). lt z +0) (entry_at k b) ∙ feasible_none_negative f real y k (rw is_n b);
      feasible_where = λ h. none_negative_feasible f real (λ k b. let c : k < N x = rw (← is_n) b in ap (λ (z : Float). lt z +0) (sym (entry_at k c)) ∙ h k c);
    }

  -- ---- refused at a substep

  module _ (k : ℕ) (c : FirstFailing x g k) where
    finite_before : all (fine f) k ≡ true
    finite_before = all_from (fine f) k (λ j b. fine_is j ∙ c.before j b)

    counted : k < f.count
    counted = rw is_n c.counted

    failing : fine f k ≡ false
    failing = fine_is k ∙ c.there

    refuses : RefusedAt x (suc k)
    refuses = refused_answer binary64 x.config x.tables x.position x.velocity x.rows x.header x.from x.lent clear k counted finite_before failing

    wrote_before : Wrote x g k
    wrote_before = wrote k (first_failing_place f k counted finite_before failing).1

  refuses_the_stop : Whole f → stop_finite x g ≡ false → RefusedAt x (suc (N x))
  refuses_the_stop w s =
      refused_at_the_end binary64 x.config x.tables x.position x.velocity x.rows x.header x.from x.lent clear w (ap (λ (y : Forecast). y.stop.sound) plan_is ∙ s)
      ∙ rw is_n

  -- ---- a call comes to one of the three

  data Comes : Type 0 where
    finished : AllFinite x g → Comes
    failed : (k : ℕ) → FirstFailing x g k → Comes
    stopped : Whole f → stop_finite x g ≡ false → Comes

  comes : Comes
  comes = go (first_or_all (fine f) f.count)
    where
      ended : Whole f → (b : Bool) → stop_finite x g ≡ b → Comes
      ended w true s = finished (record { substeps = λ k b. sym (fine_is k) ∙ all_at (fine f) f.count w k (rw is_n b); stops = s })
      ended w false s = stopped w s

      go : ((k : ℕ) × (k < f.count) × (all (fine f) k ≡ true) × (fine f k ≡ false)) ⊎ Whole f → Comes
      go (inl w) = failed w.0 (record { counted = rw (← is_n) w.1; before = λ j b. sym (fine_is j) ∙ all_at (fine f) w.0 w.2 j b; there = sym (fine_is w.0) ∙ w.3 })
      go (inr w) = ended w (stop_finite x g) refl

  stop_sound : AllFinite x g → f.stop.sound ≡ true
  stop_sound h = ap (λ (y : Forecast). y.stop.sound) plan_is ∙ h.stops

  finishes : AllFinite x g → Forecasts x g
  finishes h = forecasts (whole h.substeps) (stop_sound h)

  only_finite : (n : ℕ) (margin : Float) (feasible : Bool) (stop : Float) → answer x ≡ forecast_with n margin feasible stop → AllFinite x g
  only_finite n margin feasible stop a = go comes
    where
      clash : (place : ℕ) → RefusedAt x place → ⊥
      clash place r = let z : ◌≡◌ {A = ℕ} 0 1 = cc in omega arith

      go : Comes → AllFinite x g
      go (finished h) = h
      go (failed k c) = absurd (clash (suc k) (refuses k c))
      go (stopped w s) = absurd (clash (suc (N x)) (refuses_the_stop w s))

  only_failing : (k : ℕ) → k < N x → RefusedAt x (suc k) → FirstFailing x g k
  only_failing k b r = go comes
    where
      place : (j : ℕ) → RefusedAt x (suc j) → suc j ≡ suc k
      place j s = ap place_in (sym s ∙ r)

      clash : Forecasts x g → ⊥
      clash w = let a = w.reports_n in let z : ◌≡◌ {A = ℕ} 0 1 = cc in omega arith

      go : Comes → FirstFailing x g k
      go (finished h) = absurd (clash (finishes h))
      go (failed j c) = let e : j ≡ k = omega (arith, place j (refuses j c)) in subst (FirstFailing x g) e c
      go (stopped w s) = absurd (let z : ⊥ = omega (arith, place (N x) (refuses_the_stop w s)) in z)

  demand_3 : Demand3 x g
  demand_3 = record {
    forecasts = finishes;
    only_finite = only_finite;
    refuses = refuses;
    wrote_before = wrote_before;
    only_failing = only_failing;
    refuses_the_stop = λ h s. let w = whole h in (refuses_the_stop w s, wrote_all w);
  }

-- ---- the setpoint, and nothing left to run

module _ (x : Call) (g : Gains) (is : SecondOrder x g) (only : OnlyThirteen x) where
  abbrev t₂ : Task
  t₂ = task x g

  -- it is made after the rows, and is what the first braking substep goes towards
  first_unsound : setpoint_finite x g ≡ false → finite_in x g (rows_before x) ≡ false
  unfolding entry
  first_unsound e = rw (aims_setpoint binary64 t₂ (rows_before x) (omega arith), e)

  stop_unsound : setpoint_finite x g ≡ false → stop_finite x g ≡ false
  unfolding stop
  stop_unsound e = rw e

  placed : SetpointPlaced x g
  placed h e = go (x.config.brake.brake_steps.0 * x.config.brake.substeps.0) (all_substeps t₂)
    where
      go : (m : ℕ) → rows_before x + m ≡ N x → RefusedAt x (suc (rows_before x)) × Wrote x g (rows_before x)
      go zero q =
          let same : rows_before x ≡ N x = sym (add-zero (rows_before x)) ∙ q in
          let d = (demand_3 x g is only).refuses_the_stop (λ k b. h k (rw same b)) (stop_unsound e) in
          rw same d
      go (suc m) q =
          let fails : FirstFailing x g (rows_before x) = record { counted = omega (arith, q); before = h; there = first_unsound e } in
          ((demand_3 x g is only).refuses (rows_before x) fails, (demand_3 x g is only).wrote_before (rows_before x) fails)

  module _ (none : N x ≡ 0) where
    none_run : (k : ℕ) → k < N x → finite_in x g k ≡ true
    none_run k b = absurd (let z : ⊥ = omega (arith, none) in z)

    no_rows : rows_before x ≡ 0
    no_rows = omega (arith, none, all_substeps t₂)

    anywhere : stop_finite x g ≡ true → answer x ≡ forecast_with 0 (inf false) true (stop binary64 t₂).value
    anywhere s =
        let w = (demand_3 x g is only).forecasts (record { substeps = none_run; stops = s }) in
        let feasible = w.feasible_where (λ k b. absurd (let z : ⊥ = omega (arith, none) in z)) in
        w.reports_n ∙ rw (none, w.margin_of_none none, feasible)

    from_the_start : setpoint binary64 t₂ ≡ inward binary64 (walls_at binary64 x.config) (plant_after x g 0).p (live x.config)
    from_the_start = sym (setpoint_is binary64 t₂) ∙ ap (λ (k : ℕ). inward binary64 (walls_at binary64 x.config) (plant_after x g k).p (live x.config)) no_rows

    nothing_left : NothingLeft x g
    nothing_left = record {
      feasible_anywhere = anywhere;
      refused_at_one = λ s. rw none at ((demand_3 x g is only).refuses_the_stop none_run s).0;
      of_the_start = from_the_start;
      box_computes_none = box_setpoint x g;
    }

-- ---- the shorter list begins the longer

module _ (x : Call) (g : Gains) (is : SecondOrder x g) (b : ControlSteps) (l : List Float) where
  abbrev y : Call
  y = braked x b l

  shorter_begins : {m n : ℕ} {margin margin' : Float} {feasible feasible' : Bool} {stop stop' : Float}
      → answer x ≡ forecast_with m margin feasible stop → answer y ≡ forecast_with n margin' feasible' stop' → x.config.brake.brake_steps.0 ≤ b.0 → Begins (N x) x y
  shorter_begins {m} {n} {margin} {margin'} {feasible} {feasible'} {stop} {stop'} a a' less =
      let only = accepted_free x a in
      let only' = accepted_free y a' in
      let w = ((demand_3 x g is only).forecasts (only_finite x g is only m margin feasible stop a)).wrote in
      let w' = ((demand_3 y g is only').forecasts (only_finite y g is only' n margin' feasible' stop' a')).wrote in
      let rows = x.config.brake.commit.0 - x.from in
      let counted : N x ≤ N y = mul-le-mul_right x.config.brake.substeps.0 (let q : rows + x.config.brake.brake_steps.0 ≤ rows + b.0 = omega arith in q) in
      record {
        counted = counted;
        same = λ k c.
            w.kth k c
            ∙ sym (entry_is_slack binary64 (task x g) k)
            ∙ sym (shorter_begins_longer binary64 (task x g) b k)
            ∙ entry_is_slack binary64 (braking (task x g) b) k
            ∙ sym (w'.kth k (omega arith));
      }

-- ---- a feasible forecast stays inside

module _ (x : Call) (g : Gains) (is : SecondOrder x g) {n : ℕ} {margin : Float} {feasible : Bool} {stop : Float} (a : answer x ≡ forecast_with n margin feasible stop) where
  finite_all : AllFinite x g
  finite_all = only_finite x g is (accepted_free x a) n margin feasible stop a

  whole_task : Whole (forecast binary64 (task x g))
  whole_task = subst Whole (plan_is x g is (accepted_free x a)) (whole x g is (accepted_free x a) finite_all.substeps)

  -- each slack that was taken is sound
  slack_sound : (k : ℕ) → k < N x → (slack binary64 (walls_at binary64 x.config) (plant_after x g (suc k)).p (live x.config)).sound ≡ true
  slack_sound k b = fine_slack binary64 (task x g) k (finite_all.substeps k b)

  disc_forecast : (cx cy radius : Float) → x.config.shape ≡ Disc cx cy radius → T (fits binary64 radius) → (k : ℕ) → k < N x → DiscForecast x g cx cy radius k
  disc_forecast cx cy radius e number k b =
      let lo = (walls_at binary64 x.config).lo in
      let hi = (walls_at binary64 x.config).hi in
      let p = (plant_after x g (suc k)).p in
      let walls : walls_at binary64 x.config ≡ disc cx cy radius lo hi = λ i. record { shape = e i; lo = lo; hi = hi } in
      let same = ap (λ (w : Walls). slack binary64 w p (live x.config)) walls in
      let value : slack_after x g (suc k) ≡ (slack binary64 (disc cx cy radius lo hi) p (live x.config)).value = ap (λ (y : Checked Float). y.value) same in
      let d = (shapes.promised).disc_slack binary64 cx cy radius lo hi p (live x.config) number (sym (ap (λ (y : Checked Float). y.sound) same) ∙ slack_sound k b) in
      record {
        radius_less_distance = λ two. value ∙ d.disc_alone two;
        not_negative_exactly = λ two. ap (le +0) (value ∙ d.disc_alone two) ∙ d.edge_told;
        within_radius = λ inside. d.within_only (ap (λ (v : Float). lt v +0) (sym value) ∙ inside);
        axes_inside = λ inside j further here. d.axes_only (ap (λ (v : Float). lt v +0) (sym value) ∙ inside) j further here;
        within_all = λ near axes. ap (λ (v : Float). lt v +0) value ∙ d.within_where near axes;
      }

module _ (x : Call) (g : Gains) (is : SecondOrder x g) where
  feasible_stays_inside : {n : ℕ} {margin stop : Float} → answer x ≡ forecast_with n margin true stop → StaysInside x g
  feasible_stays_inside {n} {margin} {stop} a =
      let only = accepted_free x a in
      let h = only_finite x g is only n margin true stop a in
      let w = whole x g is only h.substeps in
      let e = plan_is x g is only in
      let ok : feasible_of (t x) ≡ true = ap feasible_in (sym (report x g is only w (stop_sound x g is only h)) ∙ a) in
      let feasible = subst (λ (y : Forecast). feasible_of y ≡ true) e ok in
      record {
        in_its_box = λ k b j c has. feasible_inside binary64 (task x g) (subst Whole e w) feasible k b j c has (low_wall_fits binary64 x.config j) (high_wall_fits binary64 x.config j);
        on_its_disc = λ k b cx cy radius shape number. feasible_on_disc binary64 (task x g) (subst Whole e w) feasible k b cx cy radius shape number;
      }

-- ---- feasible exactly when no slack after one substep or more is negative

module _ (x : Call) (g : Gains) (is : SecondOrder x g) where
  pub feasible_exactly : {n : ℕ} {margin : Float} {feasible : Bool} {stop : Float} → answer x ≡ forecast_with n margin feasible stop
      → (feasible ≡ true → (k : ℕ) → k < N x → lt (slack_after x g (suc k)) +0 ≡ false) × (((k : ℕ) → k < N x → lt (slack_after x g (suc k)) +0 ≡ false) → feasible ≡ true)
  feasible_exactly {n} {margin} {feasible} {stop} a =
      let only = accepted_free x a in
      let w = (demand_3 x g is only).forecasts (only_finite x g is only n margin feasible stop a) in
      let same : w.feasible ≡ feasible = ap feasible_in (sym w.reports_n ∙ a) in (
        λ y k b. ap (λ (z : Float). lt z +0) (sym (w.wrote.kth k b)) ∙ w.feasible_only (same ∙ y) k b,
        λ h. sym same ∙ w.feasible_where (λ k b. ap (λ (z : Float). lt z +0) (w.wrote.kth k b) ∙ h k b),
      )

-- ---- all of it

pub promised : Promised
promised = record {
  demand_3_holds = demand_3;
  setpoint_placed = placed;
  margin_leaves_the_disc = margin_unread;
  nothing_left = nothing_left;
  box_forecast = box_forecast;
  disc_forecast = λ x g is n margin feasible stop a. disc_forecast x g is a;
  shorter_begins_longer = λ x g is b l m n margin margin' feasible feasible' stop stop'. shorter_begins x g is b l;
  feasible_exactly_where = λ x g is n margin feasible stop. feasible_exactly x g is;
  feasible_is_inside = λ x g is n margin stop. feasible_stays_inside x g is;
  brakes_inside = λ c t is p v last l. brake_inside c t is p last l v;
  holds_inside = hold_inside;
  brakes_in_both = λ c t e p v last. brakes_in_both c t p v last e;
  holds_in_both = λ c t e p last. holds_in_both c t p last e;
  brake_last_judged = λ c t e p v last. brake_last c t p v last e;
  hold_last_judged = λ c t e p last. hold_last c t p last e;
  brake_as_the_rust = λ c t e p v last. brake_as_rust c t p v last e;
  hold_as_the_rust = λ c t e p last. hold_as_rust c t p last e;
  box_holds = λ c t box p last room r e n. hold_at_a_box binary64 c p last box t room e n;
  brake_walls = λ c t p v last l m. brake_walls c t p last l m v;
  hold_walls = hold_walls;
}
