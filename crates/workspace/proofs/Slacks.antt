-- What a slack tells, by the shape: one that is sound is a number, and so is each coordinate that it looked at; no distance that it is the least of is below it.
use Prim.Native.Nat.{ℕ, zero, suc, ◌-◌, ◌≤◌, ◌<◌}
use mathlib.Core.Path.{◌≡◌, refl, sym, ap, ◌∙◌}
use mathlib.Core.Bool.{true, false, not, ◌&&◌}
use mathlib.Core.List.{List, [], ◌∷◌}
use native.Mathlib.Nat.{lt_of_not-le}
use native.Mathlib.Decide.{dec_le}
use native.Mathlib.Omega.{arith}
use borrow.Author.Tests.{leb-true, le-leb, not-true}
use lib.Dec.{T}
use lib.Ieee.{Float, Format, lt, le, sub, fits, is_nan}
use Rattle.checked.specs.Each.{at}
use Rattle.checked.specs.Finite.{+0, finite}
use Rattle.checked.specs.Least.{lesser, least}
use Rattle.checked.specs.Checked.{Checked, least_of}
use Rattle.checked.proofs.Each.{and_left, and_right, all_at}
use Rattle.checked.proofs.Absorbing.{fine_sub_left}
use Rattle.checked.proofs.Ordered.{Real, finite_real, le_not_above, lt_not_below, lt_irrefl}
use Rattle.checked.proofs.Extremes.{least_real, least_bounds, least_not_below, lesser_real, lesser_left, lesser_right, not_above_inf}
use Rattle.checked.proofs.Sign.{difference_not_negative}
use Rattle.fmath.proofs.Lengths.{dist_sees, dist_fits}
use Rattle.workspace.specs.declared.Shape.{Shape}
use Rattle.workspace.specs.declared.Shape.TheVariants.{Box, Disc}
use Rattle.workspace.specs.Shape.{boxed}
use Rattle.workspace.specs.Rule.{Walls, from_centre, between, gap, to_edge, edge_first, slack_in}

module _ (f : Format) (w : Walls) (p : List Float) where
  -- ---- one distance

  pub gap_numbers : (j : ℕ) → (gap f w p j).sound ≡ true → (finite (sub f (at p j) (at w.lo j)) ≡ true) × (finite (sub f (at w.hi j) (at p j)) ≡ true)
  unfolding between
  gap_numbers j h =
      let low = finite (sub f (at p j) (at w.lo j)) in
      let high = finite (sub f (at w.hi j) (at p j)) in
      (and_left low (high && true) h, and_left high true (and_right low (high && true) h))

  pub gap_real : (j : ℕ) → (gap f w p j).sound ≡ true → Real (gap f w p j).value
  unfolding between
  gap_real j h =
      let low = sub f (at p j) (at w.lo j) in
      let high = sub f (at w.hi j) (at p j) in
      let t = gap_numbers j h in
      lesser_real low high (finite_real low t.0) (finite_real high t.1)

  module _ (x y radius : Float) where
    -- a sound one has a sound distance, and is finite
    pub edge_numbers : (to_edge f x y radius p).sound ≡ true → ((from_centre f x y p).sound ≡ true) × (finite (to_edge f x y radius p).value ≡ true)
    unfolding to_edge
    edge_numbers h = (and_left (from_centre f x y p).sound _ h, and_right (from_centre f x y p).sound _ h)

    abbrev ways : ℕ → Checked Float
    ways = edge_first (to_edge f x y radius p) (gap f w p)

    ways_real : (k : ℕ) → (ways k).sound ≡ true → Real (ways k).value
    ways_real zero h = finite_real (to_edge f x y radius p).value (edge_numbers h).1
    ways_real (suc k) h = gap_real (suc (suc k)) h

    -- a further axis among them
    pub further_at : (j n : ℕ) → 2 ≤ j → j < n → (k : ℕ) × (k < suc (n - 2)) × (ways k ≡ gap f w p j)
    further_at j n h b = at-axis (j - 2) (omega arith)
      where
        at-axis : (i : ℕ) → suc (suc i) ≡ j → (k : ℕ) × (k < suc (n - 2)) × (ways k ≡ gap f w p j)
        at-axis i e = (suc i, omega arith, rw e)

  -- ---- the least of them

  pub slack_real : (s : Shape) (n : ℕ) → (slack_in f s w p n).sound ≡ true → Real (slack_in f s w p n).value
  unfolding slack_in least_of
  slack_real Box n h = least_real (λ (j : ℕ). (gap f w p j).value) n (λ j b. gap_real j (all_at (λ (i : ℕ). (gap f w p i).sound) n h j b))
  slack_real (Disc x y radius) n h =
      least_real (λ (k : ℕ). (ways x y radius k).value) (suc (n - 2)) (λ k b. ways_real x y radius k (all_at (λ (i : ℕ). (ways x y radius i).sound) (suc (n - 2)) h k b))

  -- an axis that has a box
  pub slack_gap : (s : Shape) (n j : ℕ) → boxed s j ≡ true → j < n → (slack_in f s w p n).sound ≡ true → ((gap f w p j).sound ≡ true) × (lt (gap f w p j).value (slack_in f s w p n).value ≡ false)
  unfolding slack_in least_of
  slack_gap Box n j x b h =
      let each : (i : ℕ) → i < n → (gap f w p i).sound ≡ true = all_at (λ (i : ℕ). (gap f w p i).sound) n h in
      (each j b, least_bounds (λ (i : ℕ). (gap f w p i).value) n (λ i c. gap_real i (each i c)) j b)
  slack_gap (Disc x y radius) n j k b h =
      let each : (i : ℕ) → i < suc (n - 2) → (ways x y radius i).sound ≡ true = all_at (λ (i : ℕ). (ways x y radius i).sound) (suc (n - 2)) h in
      let t = further_at x y radius j n (leb-true 2 j k) b in
      rw (sym t.2) (each t.0 t.1, least_bounds (λ (i : ℕ). (ways x y radius i).value) (suc (n - 2)) (λ i c. ways_real x y radius i (each i c)) t.0 t.1)

  -- the disc
  pub slack_edge : (x y radius : Float) (n : ℕ) → (slack_in f (Disc x y radius) w p n).sound ≡ true → ((to_edge f x y radius p).sound ≡ true) × (lt (to_edge f x y radius p).value (slack_in f (Disc x y radius) w p n).value ≡ false)
  unfolding slack_in least_of
  slack_edge x y radius n h =
      let each : (i : ℕ) → i < suc (n - 2) → (ways x y radius i).sound ≡ true = all_at (λ (i : ℕ). (ways x y radius i).sound) (suc (n - 2)) h in
      (each 0 (omega arith), least_bounds (λ (i : ℕ). (ways x y radius i).value) (suc (n - 2)) (λ i c. ways_real x y radius i (each i c)) 0 (omega arith))

  -- so each coordinate is finite
  pub slack_sees : (s : Shape) (n j : ℕ) → j < n → (slack_in f s w p n).sound ≡ true → finite (at p j) ≡ true
  slack_sees Box n j b h = fine_sub_left f (at p j) (at w.lo j) (gap_numbers j (slack_gap Box n j refl b h).0).0
  slack_sees (Disc x y radius) n j b h = go (dec_le 2 j)
    where
      go : Dec (2 ≤ j) → finite (at p j) ≡ true
      go (yes l) = fine_sub_left f (at p j) (at w.lo j) (gap_numbers j (slack_gap (Disc x y radius) n j (le-leb 2 j l) b h).0).0
      go (no l) = dist_sees f p (x ∷ y ∷ []) 2 j (lt_of_not-le l) (edge_numbers x y radius (slack_edge x y radius n h).0).0

  -- ---- not negative, as numbers

  -- on the disc exactly where the computed distance is at most the radius
  pub edge_not_negative : (x y radius : Float) → T (fits f radius) → (to_edge f x y radius p).sound ≡ true → le +0 (to_edge f x y radius p).value ≡ le (from_centre f x y p).value radius
  unfolding to_edge
  edge_not_negative x y radius h s = difference_not_negative f radius (from_centre f x y p).value h (dist_fits f p (x ∷ y ∷ []) 2) (and_right (from_centre f x y p).sound _ s)

  -- without a further axis the slack is the disc's
  pub slack_of_two : (x y radius : Float) → (slack_in f (Disc x y radius) w p 2).value ≡ (to_edge f x y radius p).value
  unfolding slack_in least_of least lesser
  slack_of_two x y radius = rw (not_above_inf (to_edge f x y radius p).value)

  module _ (s : Shape) (n : ℕ) (sound : (slack_in f s w p n).sound ≡ true) where
    -- a distance that the slack is not above is not negative where the slack is not
    not_negative_lem : (d : Float) → Real d → lt d (slack_in f s w p n).value ≡ false → lt (slack_in f s w p n).value +0 ≡ false → le +0 d ≡ true
    unfolding is_nan
    not_negative_lem d r above inside = le_not_above +0 d tt r ∙ ap not (lt_not_below d (slack_in f s w p n).value +0 (slack_real s n sound) above inside)

    module _ (inside : lt (slack_in f s w p n).value +0 ≡ false) (j : ℕ) (has : boxed s j ≡ true) (b : j < n) where
      abbrev low : Float
      low = sub f (at p j) (at w.lo j)

      abbrev high : Float
      high = sub f (at w.hi j) (at p j)

      told : ((gap f w p j).sound ≡ true) × (lt (gap f w p j).value (slack_in f s w p n).value ≡ false)
      told = slack_gap s n j has b sound

      gap_above : lt (lesser low high) +0 ≡ false
      unfolding between
      gap_above = lt_not_below (lesser low high) (slack_in f s w p n).value +0 (slack_real s n sound) told.1 inside

      lesser-number : Real (lesser low high)
      lesser-number = lesser_real low high (finite_real low (gap_numbers j told.0).0) (finite_real high (gap_numbers j told.0).1)

      pub above-the-low-wall : T (fits f (at p j)) → T (fits f (at w.lo j)) → le (at w.lo j) (at p j) ≡ true
      unfolding is_nan
      above-the-low-wall x y =
          let real = finite_real low (gap_numbers j told.0).0 in
          sym (difference_not_negative f (at p j) (at w.lo j) x y (gap_numbers j told.0).0)
          ∙ le_not_above +0 low tt real
          ∙ ap not (lt_not_below low (lesser low high) +0 lesser-number (lesser_left low high low real (lt_irrefl low)) gap_above)

      pub below-the-high-wall : T (fits f (at p j)) → T (fits f (at w.hi j)) → le (at p j) (at w.hi j) ≡ true
      unfolding is_nan
      below-the-high-wall x y =
          sym (difference_not_negative f (at w.hi j) (at p j) y x (gap_numbers j told.0).1)
          ∙ le_not_above +0 high tt (finite_real high (gap_numbers j told.0).1)
          ∙ ap not (lt_not_below high (lesser low high) +0 lesser-number (lesser_right low high) gap_above)

  -- with a disc: not negative exactly where the disc's is not, and none of a further axis
  module _ (x y radius : Float) (n : ℕ) (sound : (slack_in f (Disc x y radius) w p n).sound ≡ true) (number : T (fits f radius)) where
    pub on_the_disc : lt (slack_in f (Disc x y radius) w p n).value +0 ≡ false → le (from_centre f x y p).value radius ≡ true
    on_the_disc inside =
        let t = slack_edge x y radius n sound in
        let e = edge_numbers x y radius t.0 in
        sym (edge_not_negative x y radius number t.0)
        ∙ not_negative_lem (Disc x y radius) n sound (to_edge f x y radius p).value (finite_real (to_edge f x y radius p).value e.1) t.1 inside

    pub within_all : le (from_centre f x y p).value radius ≡ true → ((j : ℕ) → 2 ≤ j → j < n → lt (gap f w p j).value +0 ≡ false) → lt (slack_in f (Disc x y radius) w p n).value +0 ≡ false
    unfolding slack_in least_of is_nan
    within_all near axes = least_not_below (λ (k : ℕ). (ways x y radius k).value) +0 (not_above_inf +0) (suc (n - 2)) each
      where
        edge : lt (to_edge f x y radius p).value +0 ≡ false
        edge =
            let t = slack_edge x y radius n sound in
            let real = finite_real (to_edge f x y radius p).value (edge_numbers x y radius t.0).1 in
            not-true _ (sym (le_not_above +0 (to_edge f x y radius p).value tt real) ∙ edge_not_negative x y radius number t.0 ∙ near)

        each : (k : ℕ) → k < suc (n - 2) → lt (ways x y radius k).value +0 ≡ false
        each zero b = edge
        each (suc k) b = axes (suc (suc k)) (omega arith) (omega arith)
