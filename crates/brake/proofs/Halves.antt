-- Two halves of a run, as the entry answers them: each call comes to its leg's forecast (`Towards`), and of legs `rollout` has said what two halves make. What the first leaves is where
-- the second starts, and is finite.
use Rattle.std.specs.Prelude.{Err, Result, Ok}
use Prim.Native.Nat.{ℕ, zero, suc, ◌+◌, ◌*◌, ◌≤◌, ◌<◌, min}
use mathlib.Core.Path.{◌≡◌, refl, sym, ap, ◌∙◌, subst}
use mathlib.Core.Bool.{Bool, true, false, not, ◌||◌}
use mathlib.Core.Logic.{◌⊎◌, inl, inr, ⊎_elim}
use mathlib.Core.List.{List, [], ◌∷◌, ◌++◌, append_assoc}
use native.Mathlib.Nat.{lt_of_not-le, add-suc}
use native.Mathlib.Decide.{dec_le}
use native.Mathlib.Omega.{arith}
use borrow.Author.Tests.{eqb-true, eqb-false, le-ltb, not-false}
use lib.Dec.{eqb}
use lib.ListN.{length, take, drop, replicate}
use lib.Seq.{take_at}
use lib.Ieee.{Float, binary64, lt, eq}
use Rattle.refusal.specs.Order.{Judged, short, not_finite, ◌when◌, refusal, refused_for}
use Rattle.refusal.specs.Chain.{first_passes, both_pass, passes_at}
use Rattle.refusal.specs.declared.Refusal.{Refusal}
use Rattle.fmath.specs.Answer.{some_not_finite, some_lent_not_finite, some_from}
use Rattle.checked.specs.Each.{at, all, table, over}
use Rattle.checked.specs.Finite.{finite, all_finite, +0}
use Rattle.checked.specs.Least.{lesser}
use Rattle.checked.specs.Row.{padded, eight}
use Rattle.checked.proofs.Copy.{padded_at}
use Rattle.checked.proofs.Each.{and_right, neither, all_at, all_from, table_long, over_at, over_keeps, over_same, over_front, over_itself, length_over, over_twice}
use Rattle.envelope.specs.Refusals.{config_judged}
use Rattle.envelope.specs.declared.FuseConfig.{FuseConfig}
use Rattle.workspace.specs.declared.Shape.{Shape}
use Rattle.workspace.specs.Rule.{slack_in}
use Rattle.workspace.proofs.Slacks.{slack_real}
use Rattle.course.specs.Plant.{State}
use Rattle.course.specs.Forecast.{Forecast, fine, slack_at, leading_in, place_of, margin_of, written_of}
use Rattle.course.proofs.Entries.{whole_leads, first_failing_place, nowhere_all, named, margin_attained, margin_least}
use Rattle.rollout.specs.Plant.{Gains}
use Rattle.rollout.specs.Rule.{Task, row_substeps, after}
use Rattle.rollout.specs.Leg.{Leg, leg_in, step, stepped, reached, leg}
use Rattle.rollout.specs.Of.{leg_to}
use Rattle.rollout.specs.Halves as legs
use Rattle.rollout.proofs.Halves.{halves, promised}
use Rattle.rollout.proofs.Reached.{Still, start_still, reached_still, own_start, reached_finite, after_still}
use Rattle.brake.specs.declared.Ran.{Ran}
use Rattle.brake.specs.Rule.{live, walls_at, start_at}
use Rattle.brake.specs.Answer.{too_short}
use Rattle.brake.specs.Towards.{gains_in, leg_at, run_short, run_lent, ran_with}
use Rattle.brake.specs.Of.{Lends}
use Rattle.brake.specs.Promises as the-forecast
use Rattle.brake.specs.Halves.{RunCall, told_by, slacks_left, position_left, velocity_left, StopsAt, plant_run, slack_run, RanThrough, StoppedAt, NothingRun, second, whole, Joined, StoppedFirst, StoppedLater, ExactlyThere, OfItsShape, MadeOfRuns, HalvesPromised}
use Rattle.brake.proofs.Judged.{never}
use Rattle.brake.proofs.Towards.{before, lends, refused, failed-at, failed-nowhere}

-- ---- what an toldBy says

abbrev count_in : Result Ran Refusal → ℕ
count_in (Ok o) = o.count
count_in (Err r) = 0

abbrev margin_in : Float → Result Ran Refusal → Float
margin_in x (Ok o) = o.margin
margin_in x (Err r) = x

abbrev place_in : Result Ran Refusal → ℕ
place_in (Ok o) = 0
place_in (Err r) = r.place

abbrev number_in : Result Ran Refusal → ℕ
number_in (Ok o) = 0
number_in (Err r) = r.number

module _ (x : RunCall) where
  abbrev axes : ℕ
  axes = live x.given_config

  abbrev course : Leg
  course = leg_at binary64 x.given_config x.given_aim

  abbrev start : State
  start = start_at x.given_config x.given_position x.given_velocity

  abbrev t : Forecast
  t = leg binary64 course start x.given_substeps

  abbrev judged : List Judged
  judged = before binary64 x.given_config x.given_tables x.given_aim x.given_position x.given_velocity x.given_substeps (length x.given_entries)

  -- what is answered where something that is judged beforehand refuses it
  barred : (refusal judged ≡ 0 → ⊥) → told_by x ≡ Err (refused_for (refusal judged))
  barred h = sym (refused binary64 x.given_config x.given_tables x.given_aim x.given_position x.given_velocity x.given_substeps x.given_entries refl h refl).gives

  -- a call that is accepted, or refused with 13, is free of that
  free_by : (a : Result Ran Refusal) → told_by x ≡ a → (number_in a ≡ 0) ⊎ (number_in a ≡ 13) → refusal judged ≡ 0
  free_by a e n = go (eqb (refusal judged) 0) refl
    where
      go : (b : Bool) → eqb (refusal judged) 0 ≡ b → refusal judged ≡ 0
      go true z = eqb-true (refusal judged) 0 z
      go false z =
          let h = eqb-false (refusal judged) 0 z in
          let is : refusal judged ≡ number_in a = ap number_in (sym (barred h) ∙ e) in
          ⊎_elim (λ m. is ∙ m) (λ m. absurd (never 13 judged (λ o. omega arith) refl (is ∙ m))) n

  module _ (free : refusal judged ≡ 0) where
    fits : Lends x.given_config (length x.given_aim) (length x.given_position) (length x.given_velocity) x.given_substeps (length x.given_entries)
    fits = lends binary64 x.given_config x.given_tables x.given_aim x.given_position x.given_velocity x.given_substeps (length x.given_entries) free

    few : axes ≤ 8
    few = omega (arith, fits.narrow)

    -- the entries, where so many are written
    front : (k : ℕ) → leading_in t ≡ k → k ≤ x.given_substeps → written_of t x.given_entries ≡ table (slack_at t) k ++ drop k x.given_entries
    unfolding written_of
    front k e b = ap (over (slack_at t) x.given_entries) e ∙ over_front (slack_at t) x.given_entries k (omega (arith, fits.space))

    -- no place is named
    module _ (place : place_of t ≡ 0) where
      all-fine : all (fine t) x.given_substeps ≡ true
      all-fine = nowhere_all t refl place

      accepts : told_by x ≡ ran_with x.given_substeps (margin_of t)
      accepts = sym (failed-nowhere binary64 x.given_config x.given_tables x.given_aim x.given_position x.given_velocity x.given_substeps x.given_entries free place).gives

      writes : slacks_left x ≡ table (slack_at t) x.given_substeps ++ drop x.given_substeps x.given_entries
      writes = sym (failed-nowhere binary64 x.given_config x.given_tables x.given_aim x.given_position x.given_velocity x.given_substeps x.given_entries free place).slacks ∙ front x.given_substeps (whole_leads t all-fine) (omega arith)

      moves : position_left x ≡ over (at (plant_run x x.given_substeps).p) x.given_position axes
      moves = sym (failed-nowhere binary64 x.given_config x.given_tables x.given_aim x.given_position x.given_velocity x.given_substeps x.given_entries free place).position

      speeds : velocity_left x ≡ over (at (plant_run x x.given_substeps).v) x.given_velocity axes
      speeds = sym (failed-nowhere binary64 x.given_config x.given_tables x.given_aim x.given_position x.given_velocity x.given_substeps x.given_entries free place).velocity

    -- place k + 1 is
    module _ (k : ℕ) (place : place_of t ≡ suc k) where
      there : (k < x.given_substeps) × (all (fine t) k ≡ true) × (fine t k ≡ false)
      there = named t refl k place

      refuses : StopsAt x (suc k)
      refuses = sym (failed-at binary64 x.given_config x.given_tables x.given_aim x.given_position x.given_velocity x.given_substeps x.given_entries free k place).gives

      writes-before : slacks_left x ≡ table (slack_at t) k ++ drop k x.given_entries
      writes-before =
          sym (failed-at binary64 x.given_config x.given_tables x.given_aim x.given_position x.given_velocity x.given_substeps x.given_entries free k place).slacks
          ∙ front k (first_failing_place t k there.0 there.1 there.2).1 (omega (arith, there.0))

      position-kept : position_left x ≡ x.given_position
      position-kept = sym (failed-at binary64 x.given_config x.given_tables x.given_aim x.given_position x.given_velocity x.given_substeps x.given_entries free k place).position

      velocity-kept : velocity_left x ≡ x.given_velocity
      velocity-kept = sym (failed-at binary64 x.given_config x.given_tables x.given_aim x.given_position x.given_velocity x.given_substeps x.given_entries free k place).velocity

    -- the place, from the toldBy
    place_by : (n : ℕ) → place_of t ≡ n → place_in (told_by x) ≡ n
    place_by zero e = ap place_in (accepts e)
    place_by (suc k) e = ap place_in (refuses k e)

    place_told : place_of t ≡ place_in (told_by x)
    place_told = sym (place_by (place_of t) refl)

    -- so a refusal has one
    refused_there : (r : Refusal) → told_by x ≡ Err r → (k : ℕ) × (k < x.given_substeps) × StopsAt x (suc k)
    refused_there r e = go (place_of t) refl
      where
        go : (i : ℕ) → place_of t ≡ i → (k : ℕ) × (k < x.given_substeps) × StopsAt x (suc k)
        go zero z = let w = accepts z in let no : ◌≡◌ {A = ℕ} 0 1 = cc in absurd (omega arith)
        go (suc i) z = (i, (there i z).0, refuses i z)

  -- ---- an accepted call, and one that is refused with 13

  module _ (n : ℕ) (margin : Float) (is : told_by x ≡ ran_with n margin) where
    free_then : refusal judged ≡ 0
    free_then = free_by (ran_with n margin) is (inl refl)

    nowhere_then : place_of t ≡ 0
    nowhere_then = place_told free_then ∙ ap place_in is

    count_then : n ≡ x.given_substeps
    count_then = ap count_in (sym is ∙ accepts free_then nowhere_then)

    margin_then : margin ≡ margin_of t
    margin_then = ap (margin_in margin) (sym is ∙ accepts free_then nowhere_then)

  module _ (k : ℕ) (is : StopsAt x (suc k)) where
    free_there : refusal judged ≡ 0
    free_there = free_by (Err (record { number = 13; place = suc k })) is (inr refl)

    place_there : place_of t ≡ suc k
    place_there = place_told free_there ∙ ap place_in is

-- ---- one call

run_through : (x : RunCall) (count : ℕ) (margin : Float) → told_by x ≡ ran_with count margin → RanThrough x count margin
unfolding margin_of stepped reached
run_through x count margin is =
    let free = free_then x count margin is in
    let place = nowhere_then x count margin is in
    let lent = fits x free in record {
      ran_all = count_then x count margin is;
      least_entry = margin_then x count margin is;
      room_enough = lent.space;
      entries_ran = writes x free place;
      moved_to = λ j b. (
        ap (λ (l : List Float). at l j) (moves x free place) ∙ over_at (at (plant_run x x.given_substeps).p) x.given_position (axes x) j b (omega (arith, lent.places)),
        ap (λ (l : List Float). at l j) (speeds x free place) ∙ over_at (at (plant_run x x.given_substeps).v) x.given_velocity (axes x) j b (omega (arith, lent.rates)),
      );
      rest_unmoved = λ j b. (
        ap (λ (l : List Float). at l j) (moves x free place) ∙ over_keeps (at (plant_run x x.given_substeps).p) x.given_position (axes x) j b,
        ap (λ (l : List Float). at l j) (speeds x free place) ∙ over_keeps (at (plant_run x x.given_substeps).v) x.given_velocity (axes x) j b,
      );
      lengths_stay = (
        ap length (moves x free place) ∙ length_over (at (plant_run x x.given_substeps).p) x.given_position (axes x),
        ap length (speeds x free place) ∙ length_over (at (plant_run x x.given_substeps).v) x.given_velocity (axes x),
      );
    }

run_stopped : (x : RunCall) (k : ℕ) → StopsAt x (suc k) → StoppedAt x k
unfolding stepped reached
run_stopped x k is =
    let free = free_there x k is in
    let place = place_there x k is in record {
      one_of_them = (there x free k place).0;
      room_for_them = (fits x free).space;
      entries_before = writes-before x free k place;
      position_unmoved = position-kept x free k place;
      velocity_unmoved = velocity-kept x free k place;
    }

-- a refusal that is not 13 was judged before anything is computed, and has no place
elsewhere : (x : RunCall) (r : Refusal) → told_by x ≡ Err r → (r.number ≡ 13 → ⊥) → r.place ≡ 0
elsewhere x r is other = go (eqb (refusal (judged x)) 0) refl
  where
    go : (b : Bool) → eqb (refusal (judged x)) 0 ≡ b → r.place ≡ 0
    go true z = let w = refused_there x (eqb-true (refusal (judged x)) 0 z) r is in absurd (other (ap number_in (sym is ∙ w.2)))
    go false z = ap place_in (sym is ∙ barred x (eqb-false (refusal (judged x)) 0 z))

exact : (x : RunCall) → ExactlyThere x
unfolding stepped reached margin_of
exact x = record {
  accepted_is_finite = λ count margin is. all_at (fine (t x)) x.given_substeps (all-fine x (free_then x count margin is) (nowhere_then x count margin is));
  stopped_is_first = λ k is. let w = there x (free_there x k is) k (place_there x k is) in (all_at (fine (t x)) k w.1, w.2);
  thirteen_has_a_place = λ r is e. refused_there x (free_by x (Err r) is (inr e)) r is;
  no_other_has = elsewhere x;
  none_below_the_margin = λ count margin is k b.
      let all = all-fine x (free_then x count margin is) (nowhere_then x count margin is) in
      ap (lt (slack_run x (suc k))) (margin_then x count margin is)
      ∙ margin_least (t x) (λ j c. slack_real binary64 (walls_at binary64 x.given_config) _ x.given_config.shape (axes x) (and_right (step binary64 (course x) (reached binary64 (course x) (start x) j)).sound _ (all_at (fine (t x)) x.given_substeps all j c))) k b;
  margin_is_one = λ count margin is m e. let w = margin_attained (t x) m e in (w.0, w.1, margin_then x count margin is ∙ w.2);
}

-- ---- no substeps

-- the first axes of a list, put over themselves
own_axes : (p : List Float) (n : ℕ) → n ≤ length p → n ≤ 8 → over (at (eight p n)) p n ≡ p
unfolding eight
own_axes p n h few = over_itself (at (eight p n)) p n (λ j b. padded_at p (min n (length p)) j (omega arith) (omega arith))

module _ (x : RunCall) (none : x.given_substeps ≡ 0) where
  nothing : legs.NoSubsteps binary64 (course x) (start x)
  nothing = (promised binary64).no_substeps (course x) (start x)

  no_place : place_of (t x) ≡ 0
  no_place = ap (λ (n : ℕ). place_of (leg binary64 (course x) (start x) n)) none ∙ nothing.nothing_fails

  idle : (count : ℕ) (margin : Float) → told_by x ≡ ran_with count margin → NothingRun x margin
  unfolding reached table
  idle count margin is =
      let free = free_then x count margin is in
      let lent = fits x free in record {
        infinite_slack = margin_then x count margin is ∙ ap (λ (n : ℕ). margin_of (leg binary64 (course x) (start x) n)) none ∙ nothing.infinite_slack;
        entries_stay = writes x free no_place ∙ ap (λ (n : ℕ). table (slack_at (t x)) n ++ drop n x.given_entries) none;
        position_as_given = moves x free no_place ∙ ap (λ (n : ℕ). over (at (plant_run x n).p) x.given_position (axes x)) none ∙ own_axes x.given_position (axes x) (omega (arith, lent.places)) (few x free);
        velocity_as_given = speeds x free no_place ∙ ap (λ (n : ℕ). over (at (plant_run x n).v) x.given_velocity (axes x)) none ∙ own_axes x.given_velocity (axes x) (omega (arith, lent.rates)) (few x free);
      }

  never_stopped : (r : Refusal) → told_by x ≡ Err r → r.number ≡ 13 → ⊥
  never_stopped r is e =
      let z : ◌≡◌ {A = ℕ} 0 13 = ap number_in (sym (accepts x (free_by x (Err r) is (inr e)) no_place) ∙ is) ∙ e in
      omega (arith, z)

-- ---- what the first leaves

-- a call of which nothing is refused beforehand
freed : (y : RunCall) → refusal (config_judged binary64 y.given_config y.given_tables) ≡ 0 → y.given_config.dim ≤ length y.given_aim → y.given_config.pos_dim ≤ length y.given_position → y.given_config.pos_dim ≤ length y.given_velocity → y.given_substeps ≤ length y.given_entries
    → some_lent_not_finite (y.given_aim ∷ y.given_position ∷ y.given_velocity ∷ []) ≡ false → refusal (judged y) ≡ 0
unfolding run_short too_short
freed y config aims places rates space finite =
    first_passes (config_judged binary64 y.given_config y.given_tables) (run_lent binary64 y.given_config y.given_aim y.given_position y.given_velocity y.given_substeps (length y.given_entries)) config
    ∙ rw (le-ltb (length y.given_aim) y.given_config.dim aims, le-ltb (length y.given_position) y.given_config.pos_dim places, le-ltb (length y.given_velocity) y.given_config.pos_dim rates, le-ltb (length y.given_entries) y.given_substeps space, finite)

-- what it is free of
module _ (x : RunCall) (free : refusal (judged x) ≡ 0) where
  sound_config : refusal (config_judged binary64 x.given_config x.given_tables) ≡ 0
  sound_config = (both_pass (config_judged binary64 x.given_config x.given_tables) (run_lent binary64 x.given_config x.given_aim x.given_position x.given_velocity x.given_substeps (length x.given_entries)) free).0

  all_lent_finite : some_lent_not_finite (x.given_aim ∷ x.given_position ∷ x.given_velocity ∷ []) ≡ false
  all_lent_finite =
      let unfit = some_lent_not_finite (x.given_aim ∷ x.given_position ∷ x.given_velocity ∷ []) in
      let lent = (both_pass (config_judged binary64 x.given_config x.given_tables) (run_lent binary64 x.given_config x.given_aim x.given_position x.given_velocity x.given_substeps (length x.given_entries)) free).1 in
      let rest = (passes_at short (run_short x.given_config.dim x.given_config.pos_dim (length x.given_aim) (length x.given_position) (length x.given_velocity) x.given_substeps (length x.given_entries)) (not_finite when unfit ∷ []) lent).1 in
      (passes_at not_finite unfit [] rest).0

  each_finite : (some_not_finite x.given_aim ≡ false) × (some_not_finite x.given_position ≡ false) × (some_not_finite x.given_velocity ≡ false)
  unfolding some_lent_not_finite some_from
  each_finite =
      let w = neither (some_not_finite x.given_aim || some_not_finite x.given_position) (some_not_finite x.given_velocity) all_lent_finite in
      let u = neither (some_not_finite x.given_aim) (some_not_finite x.given_position) w.0 in
      (u.0, u.1, w.1)

finite_at : (l : List Float) → some_not_finite l ≡ false → (j : ℕ) → j < length l → finite (at l j) ≡ true
unfolding all_finite
finite_at l h = all_at (λ (i : ℕ). finite (at l i)) (length l) (not-false _ h)

-- finite numbers, with finite ones put over the first
still_finite : (q l : List Float) (n : ℕ) → n ≤ length l → ((j : ℕ) → j < n → finite (at q j) ≡ true) → some_not_finite l ≡ false → some_not_finite (over (at q) l n) ≡ false
unfolding all_finite
still_finite q l n h new old =
    ap not (all_from (λ (i : ℕ). finite (at (over (at q) l n) i)) (length (over (at q) l n)) (λ j b. go j (rw (length_over (at q) l n) at b) (dec_le n j)))
  where
    go : (j : ℕ) → j < length l → Dec (n ≤ j) → finite (at (over (at q) l n) j) ≡ true
    go j b (yes k) = ap finite (over_keeps (at q) l n j k) ∙ finite_at l old j b
    go j b (no k) = ap finite (over_at (at q) l n j (lt_of_not-le k) b) ∙ new j (lt_of_not-le k)

-- a row made of what was put
eight_over : (q l : List Float) (n : ℕ) → n ≤ length l → n ≤ length q → eight (over (at q) l n) n ≡ eight q n
unfolding eight padded
eight_over q l n h k =
    let e : min n (length (over (at q) l n)) ≡ n = omega (arith, length_over (at q) l n) in
    let i : min n (length q) ≡ n = omega arith in
    rw (e, i) (over_same (at (over (at q) l n)) (at q) (replicate 8 +0) n (λ j b. over_at (at q) l n j b (omega arith)))

module _ (x : RunCall) (free : refusal (judged x) ≡ 0) (place : place_of (t x) ≡ 0) where
  abbrev end : State
  end = plant_run x x.given_substeps

  rests : Still (axes x) (start x)
  rests = start_still (axes x) x.given_position x.given_velocity

  end_rests : Still (axes x) end
  end_rests = reached_still binary64 (course x) (start x) rests x.given_substeps

  starts_finite : (j : ℕ) → j < axes x → (finite (at (start x).p j) ≡ true) × (finite (at (start x).v j) ≡ true)
  unfolding eight
  starts_finite j b =
      let lent = fits x free in
      let each = each_finite x free in (
        ap finite (padded_at x.given_position (min (axes x) (length x.given_position)) j (omega (arith, lent.narrow)) (omega (arith, lent.places))) ∙ finite_at x.given_position each.1 j (omega (arith, lent.places)),
        ap finite (padded_at x.given_velocity (min (axes x) (length x.given_velocity)) j (omega (arith, lent.narrow)) (omega (arith, lent.rates))) ∙ finite_at x.given_velocity each.2 j (omega (arith, lent.rates)),
      )

  ends_finite : (j : ℕ) → j < axes x → (finite (at end.p j) ≡ true) × (finite (at end.v j) ≡ true)
  ends_finite = reached_finite binary64 (course x) (start x) rests (few x free) starts_finite x.given_substeps (all-fine x free place)

  -- the second starts where the first ends
  next_start : start_at x.given_config (position_left x) (velocity_left x) ≡ end
  next_start =
      let lent = fits x free in
      (λ i. record {
        p = (ap (λ (l : List Float). eight l (axes x)) (moves x free place) ∙ eight_over end.p x.given_position (axes x) (omega (arith, lent.places)) (omega (arith, lent.narrow, end_rests.places))) i;
        v = (ap (λ (l : List Float). eight l (axes x)) (speeds x free place) ∙ eight_over end.v x.given_velocity (axes x) (omega (arith, lent.rates)) (omega (arith, lent.narrow, end_rests.rates))) i;
      })
      ∙ own_start (axes x) end end_rests

  -- and nothing but a computed number stops it
  next_free : (n : ℕ) (l : List Float) → n ≤ length l → refusal (judged (second x n l)) ≡ 0
  unfolding some_lent_not_finite some_from
  next_free n l room =
      let lent = fits x free in
      let each = each_finite x free in
      let p : some_not_finite (position_left x) ≡ false = ap some_not_finite (moves x free place) ∙ still_finite end.p x.given_position (axes x) (omega (arith, lent.places)) (λ j b. (ends_finite j b).0) each.1 in
      let v : some_not_finite (velocity_left x) ≡ false = ap some_not_finite (speeds x free place) ∙ still_finite end.v x.given_velocity (axes x) (omega (arith, lent.rates)) (λ j b. (ends_finite j b).1) each.2 in
      let lp = ap length (moves x free place) ∙ length_over (at end.p) x.given_position (axes x) in
      let lv = ap length (speeds x free place) ∙ length_over (at end.v) x.given_velocity (axes x) in
      freed (second x n l) (sound_config x free) lent.aims (omega (arith, lent.places, lp)) (omega (arith, lent.rates, lv)) room (rw (each.0, p, v))

-- ---- two halves

whole_free : (x : RunCall) (n : ℕ) (l : List Float) → x.given_substeps + n ≤ length l → refusal (judged x) ≡ 0 → refusal (judged (whole x n l)) ≡ 0
whole_free x n l room free = let lent = fits x free in freed (whole x n l) (sound_config x free) lent.aims lent.places lent.rates room (all_lent_finite x free)

made : (x : RunCall) (m n : ℕ) → legs.TwoHalves binary64 (course x) (start x) m n
made x m n = halves binary64 (course x) (start x) m n (λ p. slack_real binary64 (walls_at binary64 x.given_config) p x.given_config.shape (live x.given_config))

-- the first k entries
taken : (g : ℕ → Float) (k : ℕ) (rest : List Float) {l : List Float} → l ≡ table g k ++ rest → take k l ≡ table g k
taken g k rest e = ap (take k) e ∙ take_at (table g k) rest k (table_long g k)

-- the first is accepted
module _ (x : RunCall) (n : ℕ) (l lent : List Float) (room : n ≤ length l) (room-for-all : x.given_substeps + n ≤ length lent) (count : ℕ) (a : Float) (is : told_by x ≡ ran_with count a) where
  abbrev m : ℕ
  m = x.given_substeps

  free₁ : refusal (judged x) ≡ 0
  free₁ = free_then x count a is

  place₁ : place_of (t x) ≡ 0
  place₁ = nowhere_then x count a is

  free₂ : refusal (judged (second x n l)) ≡ 0
  free₂ = next_free x free₁ place₁ n l room

  free₃ : refusal (judged (whole x n lent)) ≡ 0
  free₃ = whole_free x n lent room-for-all free₁

  -- the second is the leg's second half
  second_is : t (second x n l) ≡ legs.second binary64 (course x) (start x) m n
  second_is = ap (λ (s : State). leg binary64 (course x) s n) (next_start x free₁ place₁)

  slacks₂ : slack_at (t (second x n l)) ≡ slack_at (legs.second binary64 (course x) (start x) m n)
  slacks₂ = ap (λ (y : Forecast). slack_at y) second_is

  thirteen : (r : Refusal) → told_by (second x n l) ≡ Err r → (k : ℕ) × (k < n) × StopsAt (second x n l) (suc k)
  thirteen r e = refused_there (second x n l) free₂ r e

  -- both entries, one after the other
  follow : (k : ℕ) (rest : List Float) {e₂ : List Float} → e₂ ≡ table (slack_at (t (second x n l))) k ++ rest
      → table (slack_at (t (whole x n lent))) (m + k) ++ drop (m + k) lent ≡ take m (slacks_left x) ++ (take k e₂ ++ drop (m + k) lent)
  follow k rest e =
      ap (λ (y : List Float). y ++ drop (m + k) lent)
      ((made x m k).same_entries
      ∙ ap (λ (y : List Float). y ++ table (slack_at (legs.second binary64 (course x) (start x) m k)) k) (sym (taken (slack_at (t x)) m (drop m x.given_entries) (writes x free₁ place₁)))
      ∙ ap (λ (y : List Float). take m (slacks_left x) ++ y) (sym (taken (slack_at (t (second x n l))) k rest e ∙ ap (λ (g : ℕ → Float). table g k) slacks₂)))
      ∙ append_assoc (take m (slacks_left x)) _ (drop (m + k) lent)

  -- the plant at the end
  same_end : plant_run (second x n l) n ≡ plant_run (whole x n lent) (m + n)
  same_end = ap (λ (s : State). reached binary64 (course x) s n) (next_start x free₁ place₁) ∙ sym (made x m n).same_plant

  again : (side : State → List Float) (given : List Float) {left : List Float} → left ≡ over (at (side (plant_run x m))) given (axes x)
      → over (at (side (plant_run (second x n l) n))) left (axes x) ≡ over (at (side (plant_run (whole x n lent) (m + n)))) given (axes x)
  again side given e =
      ap (λ (y : List Float). over (at (side (plant_run (second x n l) n))) y (axes x)) e
      ∙ over_twice (at (side (plant_run (second x n l) n))) (at (side (plant_run x m))) given (axes x)
      ∙ ap (λ (q : State). over (at (side q)) given (axes x)) same_end

  joined : (k : ℕ) (b : Float) → told_by (second x n l) ≡ ran_with k b → Joined x n l lent a b
  joined k b is₂ =
      let place₂ = nowhere_then (second x n l) k b is₂ in
      let h = made x m n in
      let place = h.no_place place₁ (sym (ap place_of second_is) ∙ place₂) in
      let all = nowhere_all (t (whole x n lent)) refl place in
      let a-is = margin_then x count a is in
      let b-is = margin_then (second x n l) k b is₂ ∙ ap margin_of second_is in
      let least : margin_of (t (whole x n lent)) ≡ lesser a b = h.least_of_both all ∙ sym (ap (λ (y : Float). lesser y b) a-is ∙ ap (lesser (margin_of (t x))) b-is) in
      record {
        whole_accepted = accepts (whole x n lent) free₃ place ∙ ap (λ (y : Float). ran_with (m + n) y) least;
        in_either_order = ap (eq (lesser b a)) (sym least) ∙ ap (λ (y : Float). eq y (margin_of (t (whole x n lent)))) (ap (lesser b) a-is ∙ ap (λ (y : Float). lesser y (margin_of (t x))) b-is) ∙ h.either_order all;
        same_position = moves (whole x n lent) free₃ place ∙ sym (moves (second x n l) free₂ place₂ ∙ again (λ (q : State). q.p) x.given_position (moves x free₁ place₁));
        same_velocity = speeds (whole x n lent) free₃ place ∙ sym (speeds (second x n l) free₂ place₂ ∙ again (λ (q : State). q.v) x.given_velocity (speeds x free₁ place₁));
        entries_follow = writes (whole x n lent) free₃ place ∙ follow n (drop n l) (writes (second x n l) free₂ place₂);
      }

  stopped_later : (k : ℕ) → StopsAt (second x n l) (suc k) → StoppedLater x n l lent k
  stopped_later k is₂ =
      let place₂ = place_there (second x n l) k is₂ in
      let place = (made x m n).place_in_second k place₁ (sym (ap place_of second_is) ∙ place₂) ∙ add-suc m k in
      record {
        place_moves_on = subst (StopsAt (whole x n lent)) (sym (add-suc m k)) (refuses (whole x n lent) free₃ (m + k) place);
        entries_up_to = writes-before (whole x n lent) free₃ (m + k) place ∙ follow k (drop k l) (writes-before (second x n l) free₂ k place₂);
      }

-- the first is refused
stopped_first : (x : RunCall) (n : ℕ) (lent : List Float) → x.given_substeps + n ≤ length lent → (k : ℕ) → StopsAt x (suc k) → StoppedFirst x n lent k
stopped_first x n lent room k is =
    let free = free_there x k is in
    let all-free = whole_free x n lent room free in
    let place = place_there x k is in
    let whole-place = (made x x.given_substeps n).place_in_first k place in
    record {
      same_place = refuses (whole x n lent) all-free k whole-place;
      entries_until =
          writes-before (whole x n lent) all-free k whole-place
          ∙ ap (λ (y : List Float). y ++ drop k lent) (sym (taken (slack_at (t x)) k (drop k x.given_entries) (writes-before x free k place)));
    }

-- the whole is accepted
module _ (x : RunCall) (n : ℕ) (l lent : List Float) (room : n ≤ length l) (Own-room : x.given_substeps ≤ length x.given_entries) (count : ℕ) (c : Float) (is : told_by (whole x n lent) ≡ ran_with count c) where
  wholly_free : refusal (judged (whole x n lent)) ≡ 0
  wholly_free = free_then (whole x n lent) count c is

  wholly_finite : place_of (t (whole x n lent)) ≡ 0
  wholly_finite = nowhere_then (whole x n lent) count c is

  free_first : refusal (judged x) ≡ 0
  free_first =
      let f = fits (whole x n lent) wholly_free in
      freed x (sound_config (whole x n lent) wholly_free) f.aims f.places f.rates Own-room (all_lent_finite (whole x n lent) wholly_free)

  no_first_place : (i : ℕ) → place_of (t x) ≡ i → place_of (t x) ≡ 0
  no_first_place zero e = e
  no_first_place (suc i) e = let z = (made x x.given_substeps n).place_in_first i e in absurd (omega (arith, z, wholly_finite))

  first_finite : place_of (t x) ≡ 0
  first_finite = no_first_place (place_of (t x)) refl

  no_second_place : (i : ℕ) → place_of (t (second x n l)) ≡ i → place_of (t (second x n l)) ≡ 0
  no_second_place zero e = e
  no_second_place (suc i) e =
      let same = ap (λ (s : State). place_of (leg binary64 (course x) s n)) (next_start x free_first first_finite) in
      let z = (made x x.given_substeps n).place_in_second i first_finite (sym same ∙ e) in
      absurd (omega (arith, z, wholly_finite))

  both_halves : (a : Float) × (b : Float) × (told_by x ≡ ran_with x.given_substeps a) × (told_by (second x n l) ≡ ran_with n b)
  both_halves = (
    margin_of (t x),
    margin_of (t (second x n l)),
    accepts x free_first first_finite,
    accepts (second x n l) (next_free x free_first first_finite n l room) (no_second_place (place_of (t (second x n l))) refl),
  )

-- ---- the long forecast

module _ (x : the-forecast.Call) (g : Gains) (is : the-forecast.SecondOrder x g) where
  abbrev task : Task
  task = the-forecast.task x g

  -- a leg of it from a plant that it has reached is a run's
  same_leg : (a : List Float) → leg_to binary64 task a ≡ leg_at binary64 x.config a
  same_leg a = ap (λ (y : Gains). leg_in binary64 y (walls_at binary64 x.config) (live x.config) a) (sym (ap gains_in is))

  same_start : (k : ℕ) → after binary64 task k ≡ start_at x.config (after binary64 task k).p (after binary64 task k).v
  same_start k = sym (own_start (live x.config) (after binary64 task k) (after_still binary64 task (start_still (live x.config) x.position x.velocity) k))

  as_run : {A : Type 0} (told : Leg → State → A) (a : List Float) (k : ℕ) → told (leg_to binary64 task a) (after binary64 task k) ≡ told (leg_at binary64 x.config a) (start_at x.config (after binary64 task k).p (after binary64 task k).v)
  as_run told a k = ap (λ (y : Leg). told y (after binary64 task k)) (same_leg a) ∙ ap (told (leg_at binary64 x.config a)) (same_start k)

  made_of_runs : MadeOfRuns x g
  made_of_runs =
      let per = x.config.brake.substeps.0 in
      let parts = (promised binary64).made_of_legs task in
      record {
        row_run = λ i j l h b. parts.row_entry i j h b ∙ as_run (λ (y : Leg) (s : State). (leg binary64 y s per).entry j) _ (i * per);
        row_end = λ i j l h b. parts.row_plant i j h b ∙ as_run (λ (y : Leg) (s : State). reached binary64 y s j) _ (i * per);
        braking_run = λ e j m l. parts.braking_entry e j m ∙ as_run (λ (y : Leg) (s : State). (leg binary64 y s m).entry j) _ (row_substeps task);
        braking_end = λ j m l. parts.braking_plant j ∙ as_run (λ (y : Leg) (s : State). reached binary64 y s j) _ (row_substeps task);
      }

-- ---- the workspace

abbrev in_its_shape : (c : FuseConfig) (a : List Float) (s : Shape) → Leg
in_its_shape c a s = record { gains = gains_in c.brake.kind; n = live c; aim = a; measure = λ (p : List Float). slack_in binary64 s (walls_at binary64 c) p (live c) }

of_shape : (c : FuseConfig) (a : List Float) → OfItsShape c a
unfolding slack_in
of_shape c a = record { leg_in_a_box = λ e. ap (in_its_shape c a) e; leg_on_a_disc = λ x y radius e. ap (in_its_shape c a) e }

-- ---- all of it

pub halves_promised : HalvesPromised
halves_promised = record {
  when_accepted = run_through;
  when_stopped = run_stopped;
  exactly_there = exact;
  nothing_run = idle;
  never_thirteen = never_stopped;
  halves_answered = λ x n l lent room room-for-all. record {
    thirteen_alone = thirteen x n l lent room room-for-all;
    halves_accepted = both_halves x n l lent room;
    both_accepted = λ m k a b is. joined x n l lent room room-for-all m a is k b;
    first_refused = stopped_first x n lent room-for-all;
    second_refused = λ m k a is. stopped_later x n l lent room room-for-all m a is k;
  };
  of_its_shape = of_shape;
  forecast_runs = made_of_runs;
}
