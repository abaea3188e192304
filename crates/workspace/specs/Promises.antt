-- What is promised of the workspace: what the masks of the walls say, that a box is as a guard has it that knows no other shape, and what a disc does. The proof is `proofs/Promises.promised`.
use Rattle.std.specs.Prelude.{ℕ, ◌≤◌, ◌<◌, ◌≡◌, true, false, ◌&&◌, List, [], ◌∷◌, T, length, Float}
use Rattle.std.specs.Float.{Format}
use Rattle.std.specs.Float.Ieee.{lt, le, sub, fits}
use Rattle.bits.specs.Bits.{bit}
use Rattle.checked.specs.Each.{at, some}
use Rattle.checked.specs.Finite.{+0}
use Rattle.checked.specs.Row.{eight}
use Rattle.fmath.specs.Clamp.{clamped}
use Rattle.pull.specs.Rule.{shortened}
use Rattle.workspace.specs.declared.Shape.TheVariants.{Disc}
use Rattle.workspace.specs.declared.WallMasks.{WallMasks}
use Rattle.workspace.specs.Shape.{boxed}
use Rattle.workspace.specs.Rule.{Walls, from_centre, past_edge, beyond, outside, onto_disc, inward, raised_at, lowered_at, wall_masks, any_masks, setpoint, between, slack, slack_r}
use Rattle.workspace.specs.AtBox.{box, box_outside, box_inward, box_masks, box_slack, box_slack_r}

-- what two masks say of axis j of a point a
pub record AxisTold (w : Walls) (a : List Float) (j : ℕ) (m : WallMasks) : Type 0 where
  -- a bit is set exactly where that wall moves it
  pub low_bit : bit m.low j ≡ raised_at w a j
  pub high_bit : bit m.high j ≡ lowered_at w a j
  -- both are clear exactly where it is not beyond its walls
  pub clear_where : beyond w a j ≡ false → (bit m.low j ≡ false) × (bit m.high j ≡ false)
  pub clear_only : bit m.low j ≡ false → bit m.high j ≡ false → beyond w a j ≡ false
  -- and never both are set
  pub not_both : (bit m.low j && bit m.high j) ≡ false

-- what two masks say of axis j of h points: the same, of any of them; so both bits may be set, but not by one point
pub record AxisOfAnyTold (w : Walls) (a : ℕ → List Float) (h j : ℕ) (m : WallMasks) : Type 0 where
  pub low_bit : bit m.low j ≡ some (λ (i : ℕ). raised_at w (a i) j) h
  pub high_bit : bit m.high j ≡ some (λ (i : ℕ). lowered_at w (a i) j) h
  pub clear_where : ((i : ℕ) → i < h → beyond w (a i) j ≡ false) → (bit m.low j ≡ false) × (bit m.high j ≡ false)
  pub clear_only : bit m.low j ≡ false → bit m.high j ≡ false → (i : ℕ) → i < h → beyond w (a i) j ≡ false
  pub not_both_of_one : (i : ℕ) → (raised_at w (a i) j && lowered_at w (a i) j) ≡ false

-- where a coordinate that has a box stands once it is moved inside: on the wall whose bit is set, else where it stood
pub record MovedAsTold (f : Format) (w : Walls) (a : List Float) (n j : ℕ) : Type 0 where
  pub low : bit (wall_masks w a n).low j ≡ true → at (inward f w a n).value j ≡ at w.lo j
  pub high : bit (wall_masks w a n).high j ≡ true → at (inward f w a n).value j ≡ at w.hi j
  pub neither : bit (wall_masks w a n).low j ≡ false → bit (wall_masks w a n).high j ≡ false → at (inward f w a n).value j ≡ at a j

-- past the coordinates that are looked at no bit is set
abbrev pub NoBitPast : WallMasks → ℕ → Type 0
NoBitPast m n = (j : ℕ) → n ≤ j → (bit m.low j ≡ false) × (bit m.high j ≡ false)

-- ---- a box

-- the rules at a box are those of a guard that knows no other shape
pub record AtABox (f : Format) (lo hi : List Float) : Type 0 where
  pub outside_as_before : (a : List Float) (n : ℕ) → outside f (box lo hi) a n ≡ box_outside lo hi a n
  pub inward_as_before : (a : List Float) (n : ℕ) → inward f (box lo hi) a n ≡ box_inward lo hi a n
  pub masks_as_before : (a : List Float) (n : ℕ) → wall_masks (box lo hi) a n ≡ box_masks lo hi a n
  pub setpoint_as_before : (p : List Float) (n : ℕ) → setpoint f (box lo hi) p n ≡ box_inward lo hi (eight p 8) n
  pub slack_as_before : (p : List Float) (n : ℕ) → slack f (box lo hi) p n ≡ box_slack f lo hi p n
  pub slack_r_as_before : (r : Float) (p : List Float) (n : ℕ) → slack_r f (box lo hi) r p n ≡ box_slack_r f lo hi r p n

-- ---- a disc

-- the disc with a box on the further axes
abbrev pub disc : Float → Float → Float → (lo hi : List Float) → Walls
disc x y radius lo hi = record { shape = Disc x y radius; lo = lo; hi = hi }

-- where a point lies, and where it is moved, by its distance from the centre; the first two entries of the walls are not read
pub record OnADisc (f : Format) (x y radius : Float) (lo hi a : List Float) (n : ℕ) : Type 0 where
  -- on the edge it is not past it
  pub on_the_edge : (from_centre f x y a).value ≡ radius → (past_edge f (Disc x y radius) a).value ≡ false
  -- where it is not past the edge the pull leaves it, bit for bit; where it is, it is shortened towards the centre
  pub inside_stays : lt radius (from_centre f x y a).value ≡ false → (onto_disc f (Disc x y radius) a).value ≡ a
  pub outside_shortened : lt radius (from_centre f x y a).value ≡ true → (onto_disc f (Disc x y radius) a).value ≡ (shortened f radius (from_centre f x y a).value (x ∷ y ∷ []) 2 a).value
  -- the pull leaves the further axes, which the box moves
  pub further_clamped : (j : ℕ) → 2 ≤ j → j < n → j < length a → at (inward f (disc x y radius lo hi) a n).value j ≡ clamped (at a j) (at lo j) (at hi j)
  pub first_two_pulled : (j : ℕ) → j < 2 → j < n → j < length a → at (inward f (disc x y radius lo hi) a n).value j ≡ at (onto_disc f (Disc x y radius) a).value j
  -- whatever is not finite in the distance is not passed over
  pub distance_judged : (outside f (disc x y radius lo hi) a n).sound ≡ (from_centre f x y a).sound
  pub move_judged : (from_centre f x y a).sound ≡ false → (inward f (disc x y radius lo hi) a n).sound ≡ false
  pub slack_judged : (from_centre f x y a).sound ≡ false → (slack f (disc x y radius lo hi) a n).sound ≡ false
  pub slack_r_judged : (r : Float) → (from_centre f x y a).sound ≡ false → (slack_r f (disc x y radius lo hi) r a n).sound ≡ false
  -- the closed kinds take their stopping radius off the difference; without a further axis that is the slack
  pub radius_less_distance_less_r : (r : Float) → n ≡ 2 → (slack_r f (disc x y radius lo hi) r a n).value ≡ sub f (sub f radius (from_centre f x y a).value) r

-- its slack, where it is sound and the radius is a number of the format
pub record DiscSlack (f : Format) (x y radius : Float) (lo hi p : List Float) (n : ℕ) : Type 0 where
  -- radius - distance is not negative exactly where the computed distance is at most the radius
  pub edge_told : le +0 (sub f radius (from_centre f x y p).value) ≡ le (from_centre f x y p).value radius
  -- without a further axis that is the slack
  pub disc_alone : n ≡ 2 → (slack f (disc x y radius lo hi) p n).value ≡ sub f radius (from_centre f x y p).value
  -- with some, the slack is not negative exactly where the distance is at most the radius and no further axis' distance to its walls is negative
  pub within_only : lt (slack f (disc x y radius lo hi) p n).value +0 ≡ false → le (from_centre f x y p).value radius ≡ true
  pub axes_only : lt (slack f (disc x y radius lo hi) p n).value +0 ≡ false → (j : ℕ) → 2 ≤ j → j < n → lt (between f (at lo j) (at hi j) (at p j)).value +0 ≡ false
  pub within_where :
      le (from_centre f x y p).value radius ≡ true → ((j : ℕ) → 2 ≤ j → j < n → lt (between f (at lo j) (at hi j) (at p j)).value +0 ≡ false)
      → lt (slack f (disc x y radius lo hi) p n).value +0 ≡ false

-- the walls are read from the third axis on: others that agree there change nothing
pub record SameFurther (f : Format) (x y radius : Float) (lo hi low high a : List Float) (n : ℕ) : Type 0 where
  pub same_outside : outside f (disc x y radius low high) a n ≡ outside f (disc x y radius lo hi) a n
  pub same_inward : inward f (disc x y radius low high) a n ≡ inward f (disc x y radius lo hi) a n
  pub same_masks : wall_masks (disc x y radius low high) a n ≡ wall_masks (disc x y radius lo hi) a n
  pub same_slack_r : (r : Float) → slack_r f (disc x y radius low high) r a n ≡ slack_r f (disc x y radius lo hi) r a n
  pub same_slack : slack f (disc x y radius low high) a n ≡ slack f (disc x y radius lo hi) a n

pub record Promised : Type 0 where
  pub axis_told : (w : Walls) (a : List Float) (n j : ℕ) → j < n → AxisTold w a j (wall_masks w a n)
  pub axis_of_any_told : (w : Walls) (a : ℕ → List Float) (h n j : ℕ) → j < n → AxisOfAnyTold w a h j (any_masks w a h n)
  pub moved_as_told : (f : Format) (w : Walls) (a : List Float) (n j : ℕ) → j < n → j < length a → boxed w.shape j ≡ true → MovedAsTold f w a n j
  pub no_bit_past : (w : Walls) (a : List Float) (n : ℕ) → NoBitPast (wall_masks w a n) n
  pub no_bit_of_any_past : (w : Walls) (a : ℕ → List Float) (h n : ℕ) → NoBitPast (any_masks w a h n) n
  -- of one point they are those of the point
  pub any_of_one : (w : Walls) (a : ℕ → List Float) (n : ℕ) → any_masks w a 1 n ≡ wall_masks w (a 0) n
  -- the shapes
  pub at_a_box : (f : Format) (lo hi : List Float) → AtABox f lo hi
  pub on_a_disc : (f : Format) (x y radius : Float) (lo hi a : List Float) (n : ℕ) → OnADisc f x y radius lo hi a n
  pub disc_slack : (f : Format) (x y radius : Float) (lo hi p : List Float) (n : ℕ) → T (fits f radius) → (slack f (disc x y radius lo hi) p n).sound ≡ true → DiscSlack f x y radius lo hi p n
  pub same_further :
      (f : Format) (x y radius : Float) (lo hi low high a : List Float) (n : ℕ) → ((j : ℕ) → 2 ≤ j → at low j ≡ at lo j) → ((j : ℕ) → 2 ≤ j → at high j ≡ at hi j)
      → SameFurther f x y radius lo hi low high a n
