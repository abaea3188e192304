-- A point that was moved inside lies inside on each axis that has a box: it stands between its walls. So does the setpoint at a position whose numbers are finite,
-- since what it lacks is 0.0. The pull onto a disc moves no such axis.
use Prim.Native.Nat.{ℕ, min, ◌≤◌, ◌<◌}
use mathlib.Core.Path.{◌≡◌, refl, ◌∙◌}
use mathlib.Core.Bool.{true, false}
use mathlib.Core.List.{List, [], ◌∷◌}
use native.Mathlib.Nat.{lt_of_not-le}
use native.Mathlib.Decide.{dec_le}
use native.Mathlib.Omega.{arith}
use borrow.Author.Tests.{not-false, leb-true}
use lib.ListN.{length, replicate, get_or-replicate}
use lib.Ieee.{Float, Format, nan, lt, le}
use Rattle.checked.specs.Each.{at}
use Rattle.checked.specs.Finite.{+0, finite, all_finite}
use Rattle.checked.specs.Row.{padded, eight}
use Rattle.fmath.specs.Answer.{some_not_finite}
use Rattle.fmath.specs.Clamp.{clamped}
use Rattle.fmath.proofs.Clamping.{clamp_between}
use Rattle.checked.proofs.Copy.{length_eight}
use Rattle.checked.proofs.Each.{all_at, over_at, over_keeps, length_over}
use Rattle.checked.proofs.Ordered.{Real, finite_real}
use Rattle.pull.proofs.Steps.{pulled_keeps, length_pulled}
use Rattle.workspace.specs.declared.Shape.{Shape}
use Rattle.workspace.specs.declared.Shape.TheVariants.{Box, Disc}
use Rattle.workspace.specs.Shape.{boxed}
use Rattle.workspace.specs.Rule.{Walls, onto_disc, inside_at, inward, setpoint}

-- x stands between the walls of axis j
abbrev pub Between : Walls → ℕ → Float → Type 0
Between w j x = (le (at w.lo j) x ≡ true) × (le x (at w.hi j) ≡ true)

-- ---- the move onto the disc leaves the axes that have a box

pub onto_keeps : (f : Format) (s : Shape) (a : List Float) (j : ℕ) → boxed s j ≡ true → at (onto_disc f s a).value j ≡ at a j
unfolding onto_disc
onto_keeps f Box a j h = refl
onto_keeps f (Disc x y radius) a j h = pulled_keeps f radius (x ∷ y ∷ []) 2 a j (leb-true 2 j h)

pub onto_long : (f : Format) (s : Shape) (a : List Float) → length (onto_disc f s a).value ≡ length a
unfolding onto_disc
onto_long f Box a = refl
onto_long f (Disc x y radius) a = length_pulled f radius (x ∷ y ∷ []) 2 a

module _ (f : Format) (w : Walls) (a : List Float) (n j : ℕ) (here : j < n) (there : j < length a) where
  abbrev on : List Float
  on = (onto_disc f w.shape a).value

  -- one that has a box stands inside its walls; one that has none where the disc put it
  pub inward_at : boxed w.shape j ≡ true → at (inward f w a n).value j ≡ clamped (at a j) (at w.lo j) (at w.hi j)
  unfolding inward
  inward_at h = over_at (inside_at w on) on n j here (rw (onto_long f w.shape a) there) ∙ rw (h, onto_keeps f w.shape a j h)

  pub inward_on : boxed w.shape j ≡ false → at (inward f w a n).value j ≡ at on j
  unfolding inward
  inward_on h = over_at (inside_at w on) on n j here (rw (onto_long f w.shape a) there) ∙ rw h

  pub inward_inside : boxed w.shape j ≡ true → Real (at a j) → Real (at w.lo j) → Real (at w.hi j) → lt (at w.hi j) (at w.lo j) ≡ false → Between w j (at (inward f w a n).value j)
  inward_inside h x y z o = rw (inward_at h) (clamp_between (at a j) (at w.lo j) (at w.hi j) x y z o)

-- ---- the setpoint

eight_finite : (p : List Float) (j : ℕ) → j < 8 → some_not_finite p ≡ false → finite (at (eight p 8) j) ≡ true
unfolding eight padded all_finite finite
eight_finite p j h fit = go (dec_le (length p) j)
  where
    go : Dec (length p ≤ j) → finite (at (eight p 8) j) ≡ true
    go (yes o) = rw (over_keeps (at p) (replicate 8 +0) (min 8 (length p)) j (omega arith)) (rw (get_or-replicate 8 j +0 nan h))
    go (no o) =
        let n : j < length p = lt_of_not-le o in
        let k : j < min 8 (length p) = omega arith in
        rw (over_at (at p) (replicate 8 +0) (min 8 (length p)) j k h) (all_at (λ (i : ℕ). finite (at p i)) (length p) (not-false (all_finite p (length p)) fit) j n)

pub setpoint_inside : (f : Format) (w : Walls) (p : List Float) (n j : ℕ) → j < n → j < 8 → boxed w.shape j ≡ true → some_not_finite p ≡ false → Real (at w.lo j) → Real (at w.hi j) → lt (at w.hi j) (at w.lo j) ≡ false
    → Between w j (at (setpoint f w p n).value j)
unfolding setpoint
setpoint_inside f w p n j h b bx fit = inward_inside f w (eight p 8) n j h (omega (arith, length_eight p 8)) bx (finite_real (at (eight p 8) j) (eight_finite p j b fit))

pub setpoint_long : (f : Format) (w : Walls) (p : List Float) (n : ℕ) → length (setpoint f w p n).value ≡ 8
unfolding setpoint inward
setpoint_long f w p n = let on = (onto_disc f w.shape (eight p 8)).value in length_over (inside_at w on) on n ∙ onto_long f w.shape (eight p 8) ∙ length_eight p 8

-- at a box nothing is computed
pub setpoint_sound : (f : Format) (w : Walls) (p : List Float) (n : ℕ) → w.shape ≡ Box → (setpoint f w p n).sound ≡ true
unfolding setpoint inward onto_disc
setpoint_sound f w p n e = rw e
