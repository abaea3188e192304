-- The masks of the walls: what each bit says, and that the move inside the walls is what it tells of.
use Prim.Native.Nat.{ℕ, ◌+◌, ◌≤◌, ◌<◌, min}
use mathlib.Core.Path.{◌≡◌, refl, sym, ap, ◌∙◌}
use mathlib.Core.Bool.{Bool, true, false, not, ◌&&◌, ◌||◌}
use mathlib.Core.List.{List}
use mir.Syntax.{w64}
use mir.Val.{to_z, of_z}
use native.Mathlib.Nat.{lt_of_not-le}
use native.Mathlib.Decide.{dec_le}
use native.Mathlib.Numerals.{add-one}
use native.Mathlib.Omega.{arith}
use lib.Bits.{bit_or}
use lib.IntN.{ℤ, pos}
use lib.ListN.{length}
use lib.Signed.{lt_z}
use lib.Ieee.{Float, Format, lt, eq, ne}
use Rattle.bits.specs.Bits.{bit, bits_where}
use Rattle.std.specs.Prelude.{if◌then◌else◌}
use Rattle.bits.proofs.Bits.{bit_where, no_bits, no_bit_past, bits_cut, bits_none, bits_or}
use Rattle.checked.specs.Each.{at, some}
use Rattle.checked.proofs.Each.{and_left, and_right, neither, some_none, some_none_at}
use Rattle.checked.proofs.Ordered.{below_equal, above_equal}
use Rattle.fmath.specs.declared.Sided.{Sided}
use Rattle.fmath.specs.Clamp.{side, sided, raised, lowered}
use Rattle.fmath.proofs.Clamping.{side_read_back, raised_below, lowered_above, clamp_keeps, clamped_raised, clamped_lowered}
use Rattle.workspace.specs.declared.WallMasks.{WallMasks}
use Rattle.workspace.specs.Shape.{boxed}
use Rattle.workspace.specs.Rule.{Walls, beyond, inward, raised_at, lowered_at, wall_masks, any_masks, unmoved}
use Rattle.workspace.specs.Promises.{AxisTold, AxisOfAnyTold, MovedAsTold}
use Rattle.workspace.proofs.Gaps.{none_beyond}
use Rattle.workspace.proofs.Inside.{inward_at}

-- ---- the side, as a register holds it and a comparison reads it back

module _ (x lo hi : Float) {r : Sided} (e : r ≡ sided x lo hi) where
  as_read : to_z w64 (of_z w64 r.side) ≡ side x lo hi
  as_read = ap (λ (s : Sided). to_z w64 (of_z w64 s.side)) e ∙ side_read_back x lo hi

  pub low_told : lt_z (to_z w64 (of_z w64 r.side)) (pos 0) ≡ raised x lo hi
  low_told = ap (λ (z : ℤ). lt_z z (pos 0)) as_read

  pub high_told : lt_z (pos 0) (to_z w64 (of_z w64 r.side)) ≡ lowered x lo hi
  high_told = ap (lt_z (pos 0)) as_read

-- ---- one axis

either : (has l h : Bool) → (has && l) || (has && (not l && h)) ≡ has && (l || h)
either false l h = refl
either true true h = refl
either true false h = refl

-- a coordinate is moved exactly where it is beyond its walls
pub moved_beyond : (w : Walls) (a : List Float) (j : ℕ) → raised_at w a j || lowered_at w a j ≡ beyond w a j
moved_beyond w a j =
    let x = at a j in
    rw (raised_below x (at w.lo j) (at w.hi j), lowered_above x (at w.lo j) (at w.hi j)) (either (boxed w.shape j) (lt x (at w.lo j)) (lt (at w.hi j) x))

-- so neither wall moves one that is inside
pub unmoved_at : (w : Walls) (a : List Float) (j : ℕ) → beyond w a j ≡ false → (raised_at w a j ≡ false) × (lowered_at w a j ≡ false)
unmoved_at w a j h = neither (raised_at w a j) (lowered_at w a j) (moved_beyond w a j ∙ h)

-- ---- all axes

pub inside_unmoved : (w : Walls) (a : List Float) (n : ℕ) → ((j : ℕ) → j < n → beyond w a j ≡ false) → wall_masks w a n ≡ unmoved
unfolding wall_masks
inside_unmoved w a n h = rw (bits_none (raised_at w a) n (λ j l. (unmoved_at w a j (h j l)).0), bits_none (lowered_at w a) n (λ j l. (unmoved_at w a j (h j l)).1))

pub any_inside_unmoved : (w : Walls) (a : ℕ → List Float) (h n : ℕ) → ((i : ℕ) → i < h → (j : ℕ) → j < n → beyond w (a i) j ≡ false) → any_masks w a h n ≡ unmoved
unfolding any_masks
any_inside_unmoved w a h n e =
    rw (
      bits_none (λ (j : ℕ). some (λ (i : ℕ). raised_at w (a i) j) h) n (λ j l. some_none (λ (i : ℕ). raised_at w (a i) j) h (λ i k. (unmoved_at w (a i) j (e i k j l)).0)),
      bits_none (λ (j : ℕ). some (λ (i : ℕ). lowered_at w (a i) j) h) n (λ j l. some_none (λ (i : ℕ). lowered_at w (a i) j) h (λ i k. (unmoved_at w (a i) j (e i k j l)).1)),
    )

-- a loop over points that joins the masks of each: its start, and one turn
pub none_looked_at : (w : Walls) (a : ℕ → List Float) (n : ℕ) → unmoved ≡ any_masks w a 0 n
none_looked_at w a n = sym (any_inside_unmoved w a 0 n (λ i k. absurd (omega arith)))

pub one_more : (w : Walls) (a : ℕ → List Float) (i n : ℕ) {l h : ℕ} {b : List Float} {m : WallMasks} → record { low = l; high = h } ≡ any_masks w a i n → b ≡ a i → m ≡ wall_masks w b n
    → ◌≡◌ {A = WallMasks} (record { low = bit_or l m.low; high = bit_or h m.high }) (any_masks w a (i + 1) n)
unfolding any_masks wall_masks some
one_more w a i n e eb em =
    rw (
      em,
      eb,
      ap (λ (x : WallMasks). x.low) e,
      ap (λ (x : WallMasks). x.high) e,
      add-one,
      bits_or (λ (j : ℕ). some (λ (k : ℕ). raised_at w (a k) j) i) (raised_at w (a i)) n,
      bits_or (λ (j : ℕ). some (λ (k : ℕ). lowered_at w (a k) j) i) (lowered_at w (a i)) n,
    )

-- what is found on the axes and coordinates that are there is all
pub masks_are : (w : Walls) (a : List Float) (n : ℕ) → length w.lo ≡ 8 → length w.hi ≡ 8 → {low high : ℕ} → low ≡ bits_where (raised_at w a) (min n (min (length a) 8)) → high ≡ bits_where (lowered_at w a) (min n (min (length a) 8))
    → ◌≡◌ {A = WallMasks} (record { low = low; high = high }) (wall_masks w a n)
unfolding wall_masks
masks_are w a n hl hh el eh =
    let inside : (j : ℕ) → min (length a) 8 ≤ j → (raised_at w a j ≡ false) × (lowered_at w a j ≡ false) = λ j h. unmoved_at w a j (none_beyond w a j hl hh h) in
    rw (el ∙ sym (bits_cut (raised_at w a) n (min (length a) 8) (λ j h. (inside j h).0)), eh ∙ sym (bits_cut (lowered_at w a) n (min (length a) 8) (λ j h. (inside j h).1)))

-- ---- what each bit tells

not_both_sides : (has l h : Bool) → (has && l) && (has && (not l && h)) ≡ false
not_both_sides false l h = refl
not_both_sides true true h = refl
not_both_sides true false h = refl

pub not_both_at : (w : Walls) (a : List Float) (j : ℕ) → raised_at w a j && lowered_at w a j ≡ false
not_both_at w a j =
    let x = at a j in
    rw (raised_below x (at w.lo j) (at w.hi j), lowered_above x (at w.lo j) (at w.hi j)) (not_both_sides (boxed w.shape j) (lt x (at w.lo j)) (lt (at w.hi j) x))

module _ (w : Walls) (a : List Float) (n j : ℕ) (here : j < n) where
  low_is : bit (wall_masks w a n).low j ≡ raised_at w a j
  unfolding wall_masks
  low_is = bit_where (raised_at w a) n j here

  high_is : bit (wall_masks w a n).high j ≡ lowered_at w a j
  unfolding wall_masks
  high_is = bit_where (lowered_at w a) n j here

  pub axis_told : AxisTold w a j (wall_masks w a n)
  axis_told = record {
    low_bit = low_is;
    high_bit = high_is;
    clear_where = λ h. let t = unmoved_at w a j h in (low_is ∙ t.0, high_is ∙ t.1);
    clear_only = λ l h. sym (moved_beyond w a j) ∙ rw (sym low_is ∙ l, sym high_is ∙ h);
    not_both = rw (low_is, high_is) (not_both_at w a j);
  }

  pub moved_as_told : (f : Format) → j < length a → boxed w.shape j ≡ true → MovedAsTold f w a n j
  moved_as_told f there bx =
      let at_j = inward_at f w a n j here there bx in
      record {
        low = λ e. at_j ∙ clamped_raised (at a j) (at w.lo j) (at w.hi j) (and_right (boxed w.shape j) (raised (at a j) (at w.lo j) (at w.hi j)) (sym low_is ∙ e));
        high = λ e. at_j ∙ clamped_lowered (at a j) (at w.lo j) (at w.hi j) (and_right (boxed w.shape j) (lowered (at a j) (at w.lo j) (at w.hi j)) (sym high_is ∙ e));
        neither = λ l h. let t = neither (lt (at a j) (at w.lo j)) (lt (at w.hi j) (at a j)) (rw bx at (axis_told.clear_only l h)) in at_j ∙ clamp_keeps (at a j) (at w.lo j) (at w.hi j) t.0 t.1;
      }

-- a coordinate that a wall moves has a box and is another number afterwards, and so is every y that equals it as a number
module _ (f : Format) (w : Walls) (a : List Float) (n j : ℕ) (here : j < n) (there : j < length a) (y : Float) (same : eq y (at (inward f w a n).value j) ≡ true) where
  abbrev x : Float
  x = at a j

  raised_differs : raised_at w a j ≡ true → ne x y ≡ true
  unfolding ne
  raised_differs e =
      let up = raised x (at w.lo j) (at w.hi j) in
      let at-wall = rw ((moved_as_told w a n j here f there (and_left (boxed w.shape j) up e)).low (low_is w a n j here ∙ e)) at same in
      ap not (below_equal x y (at w.lo j) at-wall (sym (raised_below x (at w.lo j) (at w.hi j)) ∙ and_right (boxed w.shape j) up e))

  lowered_differs : lowered_at w a j ≡ true → ne x y ≡ true
  unfolding ne
  lowered_differs e =
      let down = lowered x (at w.lo j) (at w.hi j) in
      let at-wall = rw ((moved_as_told w a n j here f there (and_left (boxed w.shape j) down e)).high (high_is w a n j here ∙ e)) at same in
      let above = and_right (not (lt x (at w.lo j))) (lt (at w.hi j) x) (sym (lowered_above x (at w.lo j) (at w.hi j)) ∙ and_right (boxed w.shape j) down e) in
      ap not (above_equal x y (at w.hi j) at-wall above)

  pub moved_differs : raised_at w a j || lowered_at w a j ≡ true → ne x y ≡ true
  moved_differs h = go (raised_at w a j) refl h
    where
      go : (b : Bool) → raised_at w a j ≡ b → b || lowered_at w a j ≡ true → ne x y ≡ true
      go true e k = raised_differs e
      go false e k = lowered_differs k

module _ (w : Walls) (a : ℕ → List Float) (h n j : ℕ) (here : j < n) where
  abbrev any_low : ℕ → Bool
  any_low i = raised_at w (a i) j

  abbrev any_high : ℕ → Bool
  any_high i = lowered_at w (a i) j

  any_low_is : bit (any_masks w a h n).low j ≡ some any_low h
  unfolding any_masks
  any_low_is = bit_where (λ (k : ℕ). some (λ (i : ℕ). raised_at w (a i) k) h) n j here

  any_high_is : bit (any_masks w a h n).high j ≡ some any_high h
  unfolding any_masks
  any_high_is = bit_where (λ (k : ℕ). some (λ (i : ℕ). lowered_at w (a i) k) h) n j here

  pub axis_of_any_told : AxisOfAnyTold w a h j (any_masks w a h n)
  axis_of_any_told = record {
    low_bit = any_low_is;
    high_bit = any_high_is;
    clear_where = λ e. (any_low_is ∙ some_none any_low h (λ i l. (unmoved_at w (a i) j (e i l)).0), any_high_is ∙ some_none any_high h (λ i l. (unmoved_at w (a i) j (e i l)).1));
    clear_only = λ e g i l. sym (moved_beyond w (a i) j) ∙ rw (some_none_at any_low h (sym any_low_is ∙ e) i l, some_none_at any_high h (sym any_high_is ∙ g) i l);
    not_both_of_one = λ i. not_both_at w (a i) j;
  }

-- of one point no axis has both bits, moved or not
pub never_both : (b : Bool) (w : Walls) (a : List Float) (n j : ℕ) → bit (if b then wall_masks w a n else unmoved).low j && bit (if b then wall_masks w a n else unmoved).high j ≡ false
unfolding wall_masks
never_both false w a n j = rw (no_bits j)
never_both true w a n j = go (dec_le n j)
  where
    go : Dec (n ≤ j) → bit (wall_masks w a n).low j && bit (wall_masks w a n).high j ≡ false
    go (yes l) = rw (no_bit_past (raised_at w a) n j l)
    go (no l) = (axis_told w a n j (lt_of_not-le l)).not_both
