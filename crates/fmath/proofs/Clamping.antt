-- clamp: its value lies between the walls, is x inside them, and stays where it is; its side is that of the wall which x is beyond.
use Prim.Native.Nat.{◌+◌, ◌*◌}
use mathlib.Core.Path.{◌≡◌, refl, sym, ap, ◌∙◌}
use mathlib.Core.Bool.{Bool, true, false, not, ◌&&◌, cond}
use native.Mathlib.Omega.{arith}
use borrow.Author.Tests.{not-true, le-ltb}
use mir.Syntax.{w64}
use mir.Val.{to_z, of_z}
use lib.IntN.{ℤ, pos, negsuc, pos-ne-negsuc}
use lib.Signed.{lt_z}
use lib.Ieee.{Float, nan, inf, fin, lt, le, is_nan, up, down}
use Rattle.fmath.specs.declared.Sided.{Sided}
use Rattle.fmath.specs.Clamp.{clamped, side, raised, lowered}
use Rattle.fmath.specs.Promises.{zero_of, SideExactly, ValueBySide, ZeroUntouched}
use Rattle.checked.proofs.Each.{and_left, and_right}
use Rattle.checked.proofs.Ordered.{Real, nan_below, below_nan, lt_irrefl, lt_transitive, le_not_above}

pub clamp_keeps : (x lo hi : Float) → lt x lo ≡ false → lt hi x ≡ false → clamped x lo hi ≡ x
unfolding clamped
clamp_keeps x lo hi h k = rw (h, k)

-- walls in order: the value is beyond neither
module _ (x lo hi : Float) (walls : lt hi lo ≡ false) where
  pub clamp_above_lo : lt (clamped x lo hi) lo ≡ false
  unfolding clamped
  clamp_above_lo = go (lt x lo) (lt hi x) refl
    where
      go : (a b : Bool) → lt x lo ≡ a → lt (cond a lo (cond b hi x)) lo ≡ false
      go true b e = lt_irrefl lo
      go false true e = walls
      go false false e = e

  pub clamp_below_hi : lt hi (clamped x lo hi) ≡ false
  unfolding clamped
  clamp_below_hi = go (lt x lo) (lt hi x) refl
    where
      go : (a b : Bool) → lt hi x ≡ b → lt hi (cond a lo (cond b hi x)) ≡ false
      go true b e = walls
      go false true e = lt_irrefl hi
      go false false e = e

  pub clamp_stays : clamped (clamped x lo hi) lo hi ≡ clamped x lo hi
  clamp_stays = clamp_keeps (clamped x lo hi) lo hi clamp_above_lo clamp_below_hi

-- of numbers it is a number, and lies between the walls
module _ (x lo hi : Float) (a : Real x) (b : Real lo) (c : Real hi) where
  clamp_real : Real (clamped x lo hi)
  unfolding clamped
  clamp_real = go (lt x lo) (lt hi x)
    where
      go : (p q : Bool) → Real (cond p lo (cond q hi x))
      go true q = b
      go false true = c
      go false false = a

  pub clamp_between : lt hi lo ≡ false → (le lo (clamped x lo hi) ≡ true) × (le (clamped x lo hi) hi ≡ true)
  clamp_between walls = (
    le_not_above lo (clamped x lo hi) b clamp_real ∙ ap not (clamp_above_lo x lo hi walls),
    le_not_above (clamped x lo hi) hi clamp_real c ∙ ap not (clamp_below_hi x lo hi walls),
  )

-- ---- the side

-- the answer after each of the two tests, x below lo and x above hi
module _ (a b : Bool) (x lo hi : Float) where
  pub raised_is : a ≡ true → ◌≡◌ {A = Sided} (record { value = lo; side = negsuc 0 }) (record { value = cond a lo (cond b hi x); side = cond a (negsuc 0) (cond b (pos 1) (pos 0)) })
  raised_is h = rw h

  pub lowered_is : a ≡ false → b ≡ true → ◌≡◌ {A = Sided} (record { value = hi; side = pos 1 }) (record { value = cond a lo (cond b hi x); side = cond a (negsuc 0) (cond b (pos 1) (pos 0)) })
  lowered_is h k = rw (h, k)

  pub untouched_is : a ≡ false → b ≡ false → ◌≡◌ {A = Sided} (record { value = x; side = pos 0 }) (record { value = cond a lo (cond b hi x); side = cond a (negsuc 0) (cond b (pos 1) (pos 0)) })
  untouched_is h k = rw (h, k)

-- walls in order: hi is not below lo
in_order : (lo hi : Float) → le lo hi ≡ true → lt hi lo ≡ false
unfolding lt is_nan
in_order nan hi h = below_nan hi
in_order (inf s) nan h = refl
in_order (inf s) (inf t) h = not-true _ (sym (le_not_above (inf s) (inf t) tt tt) ∙ h)
in_order (inf s) (fin t n d) h = not-true _ (sym (le_not_above (inf s) (fin t n d) tt tt) ∙ h)
in_order (fin s m e) nan h = refl
in_order (fin s m e) (inf t) h = not-true _ (sym (le_not_above (fin s m e) (inf t) tt tt) ∙ h)
in_order (fin s m e) (fin t n d) h = not-true _ (sym (le_not_above (fin s m e) (fin t n d) tt tt) ∙ h)

-- so what is above hi is not below lo
above_not_below : (x lo hi : Float) → le lo hi ≡ true → lt hi x ≡ true → lt x lo ≡ false
above_not_below x lo hi h k = go (lt x lo) refl
  where
    go : (t : Bool) → lt x lo ≡ t → t ≡ false
    go true e = sym (lt_transitive hi x lo k e) ∙ in_order lo hi h
    go false e = refl

-- the side by the two tests, x below lo and x above hi
abbrev side_by : Bool → Bool → ℤ
side_by a b = cond a (negsuc 0) (cond b (pos 1) (pos 0))

low_told : (a b : Bool) → lt_z (side_by a b) (pos 0) ≡ a
low_told true b = refl
low_told false true = refl
low_told false false = refl

high_told : (a b : Bool) → lt_z (pos 0) (side_by a b) ≡ (not a && b)
high_told true b = refl
high_told false true = refl
high_told false false = refl

none_told : (a b : Bool) → side_by a b ≡ pos 0 → (a ≡ false) × (b ≡ false)
none_told true b e = absurd (pos-ne-negsuc 0 0 (sym e))
none_told false true e = (refl, ap (lt_z (pos 0)) e)
none_told false false e = (refl, refl)

-- raised is below lo; lowered is above hi and not raised
module _ (x lo hi : Float) where
  pub raised_below : raised x lo hi ≡ lt x lo
  unfolding side
  raised_below = low_told (lt x lo) (lt hi x)

  pub lowered_above : lowered x lo hi ≡ (not (lt x lo) && lt hi x)
  unfolding side
  lowered_above = high_told (lt x lo) (lt hi x)

  pub side_exactly : le lo hi ≡ true → SideExactly x lo hi
  unfolding side
  side_exactly h = record {
    low_where = λ k. rw k;
    low_only = λ e. sym raised_below ∙ ap (λ (z : ℤ). lt_z z (pos 0)) e;
    high_where = λ k. rw (above_not_below x lo hi h k, k);
    high_only = λ e. and_right (not (lt x lo)) (lt hi x) (sym lowered_above ∙ ap (lt_z (pos 0)) e);
    none_where = λ h k. rw (h, k);
    none_only = none_told (lt x lo) (lt hi x);
  }

  pub clamped_raised : raised x lo hi ≡ true → clamped x lo hi ≡ lo
  unfolding clamped
  clamped_raised e = rw (sym raised_below ∙ e)

  pub clamped_lowered : lowered x lo hi ≡ true → clamped x lo hi ≡ hi
  unfolding clamped
  clamped_lowered e = let t = sym lowered_above ∙ e in rw (not-true (lt x lo) (and_left (not (lt x lo)) (lt hi x) t), and_right (not (lt x lo)) (lt hi x) t)

  pub value_by_side : ValueBySide x lo hi
  unfolding side
  value_by_side = record {
    raised = λ e. clamped_raised (ap (λ (z : ℤ). lt_z z (pos 0)) e);
    lowered = λ e. clamped_lowered (ap (lt_z (pos 0)) e);
    untouched = λ e. let t = none_told (lt x lo) (lt hi x) e in clamp_keeps x lo hi t.0 t.1;
  }

-- a side fits a word: it is read back as it was put
pub side_read_back : (x lo hi : Float) → to_z w64 (of_z w64 (side x lo hi)) ≡ side x lo hi
unfolding side
side_read_back x lo hi = go (lt x lo) (lt hi x)
  where
    go : (a b : Bool) → to_z w64 (of_z w64 (side_by a b)) ≡ side_by a b
    go true b = refl
    go false true = refl
    go false false = refl

pub side_of_nan : (lo hi : Float) → side nan lo hi ≡ pos 0
unfolding side
side_of_nan lo hi = rw (nan_below lo, below_nan hi)

zero_not_below_zero : (s t : Bool) (d e : ℤ) → lt (zero_of s d) (zero_of t e) ≡ false
unfolding lt
zero_not_below_zero false false d e = le-ltb (0 * up d * down e) (0 * up e * down d) (omega arith)
zero_not_below_zero false true d e = refl
zero_not_below_zero true false d e = le-ltb 0 (0 * up d * down e + 0 * up e * down d) (omega arith)
zero_not_below_zero true true d e = le-ltb (0 * up e * down d) (0 * up d * down e) (omega arith)

pub zero_untouched : (s t : Bool) (d e : ℤ) (wall : Float) → ZeroUntouched s t d e wall
unfolding side
zero_untouched s t d e wall = record {
  on_low = λ h. rw (zero_not_below_zero s t d e, h);
  on_high = λ h. rw (h, zero_not_below_zero t s e d);
}
