-- What is promised of the workspace. At a box each rule computes to that of a guard that knows no other shape; on a disc each follows from the pull, from the distance, and from
-- the least that the slack is.
use Prim.Native.Nat.{ℕ, zero, suc, ◌-◌, ◌≤◌, ◌<◌}
use mathlib.Core.Path.{◌≡◌, refl, ap, ◌∙◌}
use mathlib.Core.Bool.{Bool, true, false, ◌&&◌, ◌||◌, and-true}
use mathlib.Core.List.{List, [], ◌∷◌}
use native.Mathlib.Omega.{arith}
use borrow.Author.Tests.{le-leb, lt-leb, leb-true}
use lib.Dec.{T, leb}
use lib.Ieee.{Float, Format, lt, sub, fits}
use Rattle.std.specs.Prelude.{if◌then◌else◌}
use Rattle.bits.proofs.Bits.{no_bit_past, bits_same}
use Rattle.checked.specs.Each.{at, some}
use Rattle.checked.specs.Finite.{+0}
use Rattle.checked.specs.Least.{lesser, least}
use Rattle.checked.specs.Checked.{least_of}
use Rattle.checked.proofs.Each.{all_fails, some_same, over_same}
use Rattle.checked.proofs.Ordered.{lt_irrefl, lt_not_below}
use Rattle.checked.proofs.Extremes.{not_above_inf}
use Rattle.fmath.specs.Clamp.{clamped, raised, lowered}
use Rattle.pull.specs.Rule.{shortened, pulled}
use Rattle.pull.proofs.Steps.{pulled_stays, pulled_is}
use Rattle.workspace.specs.declared.Shape.TheVariants.{Disc}
use Rattle.workspace.specs.Rule.{Walls, from_centre, past_edge, outside, onto_disc, inside_at, inward, raised_at, lowered_at, wall_masks, any_masks, setpoint, gap, gap_r, to_edge, to_edge_r, edge_first, slack_in, slack_in_r, slack, slack_r}
use Rattle.workspace.specs.Promises.{AtABox, disc, OnADisc, DiscSlack, SameFurther, Promised}
use Rattle.workspace.proofs.Gaps.{least_of_same}
use Rattle.workspace.proofs.Inside.{inward_at, inward_on}
use Rattle.workspace.proofs.Masks.{axis_told, axis_of_any_told, moved_as_told}
use Rattle.workspace.proofs.Slacks.{slack_real, slack_gap, slack_edge, edge_not_negative, slack_of_two, on_the_disc, within_all}

at_a_box : (f : Format) (lo hi : List Float) → AtABox f lo hi
unfolding past_edge outside onto_disc inward wall_masks setpoint slack_in slack_in_r
at_a_box f lo hi = record {
  outside_as_before = λ a n. refl;
  inward_as_before = λ a n. refl;
  masks_as_before = λ a n. refl;
  setpoint_as_before = λ p n. refl;
  slack_as_before = λ p n. refl;
  slack_r_as_before = λ r p n. refl;
}

module _ (f : Format) (x y radius : Float) (lo hi a : List Float) (n : ℕ) where
  abbrev w : Walls
  w = disc x y radius lo hi

  edge_touched : (from_centre f x y a).value ≡ radius → (past_edge f (Disc x y radius) a).value ≡ false
  unfolding past_edge
  edge_touched e = ap (lt radius) e ∙ lt_irrefl radius

  stays : lt radius (from_centre f x y a).value ≡ false → (onto_disc f (Disc x y radius) a).value ≡ a
  unfolding onto_disc
  stays h = pulled_stays f radius (x ∷ y ∷ []) 2 a h

  shortens : lt radius (from_centre f x y a).value ≡ true → (onto_disc f (Disc x y radius) a).value ≡ (shortened f radius (from_centre f x y a).value (x ∷ y ∷ []) 2 a).value
  unfolding onto_disc
  shortens h = pulled_is f radius (x ∷ y ∷ []) 2 a h

  distance_told : (outside f w a n).sound ≡ (from_centre f x y a).sound
  unfolding outside past_edge
  distance_told = ap (λ (b : Bool). b && true) (and-true (from_centre f x y a).sound) ∙ and-true (from_centre f x y a).sound

  move_told : (from_centre f x y a).sound ≡ false → (inward f w a n).sound ≡ false
  unfolding inward onto_disc pulled
  move_told h = rw h

  slack_told : (from_centre f x y a).sound ≡ false → (slack f w a n).sound ≡ false
  unfolding slack_in least_of to_edge
  slack_told h = all_fails (λ (k : ℕ). (edge_first (to_edge f x y radius a) (gap f w a) k).sound) (suc (n - 2)) 0 (omega arith) (rw h)

  slack_r_told : (r : Float) → (from_centre f x y a).sound ≡ false → (slack_r f w r a n).sound ≡ false
  unfolding slack_in_r least_of to_edge to_edge_r
  slack_r_told r h = all_fails (λ (k : ℕ). (edge_first (to_edge_r f x y radius r a) (gap_r f w r a) k).sound) (suc (n - 2)) 0 (omega arith) (rw h)

  alone_r : (r : Float) → n ≡ 2 → (slack_r f w r a n).value ≡ sub f (sub f radius (from_centre f x y a).value) r
  unfolding slack_in_r least_of least lesser to_edge to_edge_r
  alone_r r e = rw (e, not_above_inf (sub f (sub f radius (from_centre f x y a).value) r))

  on_a_disc : OnADisc f x y radius lo hi a n
  on_a_disc = record {
    on_the_edge = edge_touched;
    inside_stays = stays;
    outside_shortened = shortens;
    further_clamped = λ j further here there. inward_at f w a n j here there (le-leb 2 j further);
    first_two_pulled = λ j first here there. inward_on f w a n j here there (lt-leb 2 j first);
    distance_judged = distance_told;
    move_judged = move_told;
    slack_judged = slack_told;
    slack_r_judged = slack_r_told;
    radius_less_distance_less_r = alone_r;
  }

  module _ (number : T (fits f radius)) (sound : (slack f w a n).sound ≡ true) where
    edge_sound : (to_edge f x y radius a).sound ≡ true
    edge_sound = (slack_edge f w a x y radius n sound).0

    alone : n ≡ 2 → (slack f w a n).value ≡ sub f radius (from_centre f x y a).value
    unfolding to_edge
    alone e = rw e (slack_of_two f w a x y radius)

    axes_inside : lt (slack f w a n).value +0 ≡ false → (j : ℕ) → 2 ≤ j → j < n → lt (gap f w a j).value +0 ≡ false
    axes_inside inside j further here =
        lt_not_below (gap f w a j).value (slack f w a n).value +0 (slack_real f w a (Disc x y radius) n sound) (slack_gap f w a (Disc x y radius) n j (le-leb 2 j further) here sound).1 inside

    disc_slack : DiscSlack f x y radius lo hi a n
    unfolding to_edge
    disc_slack = record {
      edge_told = edge_not_negative f w a x y radius number edge_sound;
      disc_alone = alone;
      within_only = on_the_disc f w a x y radius n sound number;
      axes_only = axes_inside;
      within_where = within_all f w a x y radius n sound number;
    }

-- ---- the first two entries of the walls are not read

module _ (f : Format) (x y radius : Float) (lo hi low high a : List Float) (n : ℕ) (lows : (j : ℕ) → 2 ≤ j → at low j ≡ at lo j) (highs : (j : ℕ) → 2 ≤ j → at high j ≡ at hi j) where
  -- what is asked of an axis only where it has a box
  where_boxed : {A : Type 0} (g h : ℕ → A) → ((j : ℕ) → 2 ≤ j → g j ≡ h j) → (other : ℕ → A) (j : ℕ) → (if leb 2 j then g j else other j) ≡ (if leb 2 j then h j else other j)
  where_boxed g h e other j = go (leb 2 j) refl
    where
      go : (b : Bool) → leb 2 j ≡ b → (if b then g j else other j) ≡ (if b then h j else other j)
      go true p = e j (leb-true 2 j p)
      go false p = refl

  tested_same : (p : Float → Float → Float → Bool) (j : ℕ) → leb 2 j && p (at a j) (at low j) (at high j) ≡ leb 2 j && p (at a j) (at lo j) (at hi j)
  tested_same p j = go (leb 2 j) refl
    where
      go : (b : Bool) → leb 2 j ≡ b → b && p (at a j) (at low j) (at high j) ≡ b && p (at a j) (at lo j) (at hi j)
      go true e = rw (lows j (leb-true 2 j e), highs j (leb-true 2 j e))
      go false e = refl

  same_gap : (j : ℕ) → 2 ≤ j → gap f (disc x y radius low high) a j ≡ gap f (disc x y radius lo hi) a j
  same_gap j h = rw (lows j h, highs j h)

  same_ways : (k : ℕ) → edge_first (to_edge f x y radius a) (gap f (disc x y radius low high) a) k ≡ edge_first (to_edge f x y radius a) (gap f (disc x y radius lo hi) a) k
  same_ways zero = refl
  same_ways (suc k) = same_gap (suc (suc k)) (omega arith)

  outsides : outside f (disc x y radius low high) a n ≡ outside f (disc x y radius lo hi) a n
  unfolding outside
  outsides = rw (some_same _ _ n (λ j l. tested_same (λ v l h. lt v l || lt h v) j))

  inwards : inward f (disc x y radius low high) a n ≡ inward f (disc x y radius lo hi) a n
  unfolding inward
  inwards =
      let b = (onto_disc f (Disc x y radius) a).value in
      rw (over_same (inside_at (disc x y radius low high) b) (inside_at (disc x y radius lo hi) b) b n (λ j l. where_boxed (λ (i : ℕ). clamped (at b i) (at low i) (at high i)) (λ (i : ℕ). clamped (at b i) (at lo i) (at hi i)) (λ i h. rw (lows i h, highs i h)) (at b) j))

  masks : wall_masks (disc x y radius low high) a n ≡ wall_masks (disc x y radius lo hi) a n
  unfolding wall_masks
  masks = rw (bits_same _ _ n (λ j l. tested_same raised j), bits_same _ _ n (λ j l. tested_same lowered j))

  slacks : slack f (disc x y radius low high) a n ≡ slack f (disc x y radius lo hi) a n
  unfolding slack_in
  slacks = least_of_same _ _ (suc (n - 2)) (λ k l. same_ways k)

  same_ways_r : (r : Float) (k : ℕ) → edge_first (to_edge_r f x y radius r a) (gap_r f (disc x y radius low high) r a) k ≡ edge_first (to_edge_r f x y radius r a) (gap_r f (disc x y radius lo hi) r a) k
  same_ways_r r zero = refl
  same_ways_r r (suc k) = let h : 2 ≤ suc (suc k) = omega arith in rw (lows (suc (suc k)) h, highs (suc (suc k)) h)

  slacks_r : (r : Float) → slack_r f (disc x y radius low high) r a n ≡ slack_r f (disc x y radius lo hi) r a n
  unfolding slack_in_r
  slacks_r r = least_of_same _ _ (suc (n - 2)) (λ k l. same_ways_r r k)

  same_further : SameFurther f x y radius lo hi low high a n
  same_further = record { same_outside = outsides; same_inward = inwards; same_masks = masks; same_slack_r = slacks_r; same_slack = slacks }

pub promised : Promised
unfolding wall_masks any_masks some
promised = record {
  axis_told = axis_told;
  axis_of_any_told = axis_of_any_told;
  moved_as_told = λ f w a n j here. moved_as_told w a n j here f;
  no_bit_past = λ w a n j h. (no_bit_past (raised_at w a) n j h, no_bit_past (lowered_at w a) n j h);
  no_bit_of_any_past = λ w a k n j h. (no_bit_past (λ (j : ℕ). some (λ (i : ℕ). raised_at w (a i) j) k) n j h, no_bit_past (λ (j : ℕ). some (λ (i : ℕ). lowered_at w (a i) j) k) n j h);
  any_of_one = λ w a n. refl;
  at_a_box = at_a_box;
  on_a_disc = on_a_disc;
  disc_slack = λ f x y radius lo hi p n number sound. disc_slack f x y radius lo hi p n number sound;
  same_further = same_further;
}
