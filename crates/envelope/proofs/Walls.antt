-- A derived wall is a number of the format: a sum or a difference, a zero, or, where there is none, no number. A loop that tests an axis against the first one with a box
-- keeps the walls of those that have one.
use Prim.Native.Nat.{ℕ, ◌≤◌, ◌<◌}
use mathlib.Core.Path.{◌≡◌, sym, ap, ◌∙◌}
use mathlib.Core.Bool.{Bool, true, false, not, ◌&&◌, ◌||◌}
use mathlib.Core.List.{List}
use native.Mathlib.Nat.{lt_of_not-le}
use native.Mathlib.Decide.{dec_le}
use native.Mathlib.Omega.{arith}
use lib.Dec.{T, leb, ltb}
use lib.ListN.{length, get_or-eq_default}
use lib.Ieee.{Float, Format, nan, fits}
use lib.Ieee.Fits.{nan-fits, add-fits, sub-fits}
use Rattle.checked.specs.Each.{at, all, table}
use Rattle.checked.specs.Finite.{+0, finite}
use Rattle.checked.proofs.Each.{all_same, all_fails, table_long, table_at, table_same}
use Rattle.workspace.specs.declared.Shape.{Shape}
use Rattle.workspace.specs.Shape.{first_boxed, boxed}
use Rattle.workspace.proofs.Shapes.{boxed_from, boxed_told, first_most}
use Rattle.envelope.specs.Refusals.{walls_finite}
use Rattle.envelope.specs.Derive.{kept, low_walls, high_walls, derived_from, derived}
use Rattle.envelope.specs.declared.FuseConfig.{FuseConfig}

-- ---- which walls are kept, and judged

module _ (s : Shape) {first : ℕ} (e : first ≡ first_boxed s) (n : ℕ) where
  has_box : (i : ℕ) → leb first i ≡ boxed s i
  has_box i = ap (λ (k : ℕ). leb k i) e ∙ boxed_told s i

  pub walls_kept : (g : ℕ → Float) → table (λ (i : ℕ). kept (leb first i && ltb i n) (g i)) 8 ≡ table (λ (i : ℕ). kept (boxed s i && ltb i n) (g i)) 8
  walls_kept g = table_same _ _ 8 (λ i l. ap (λ (b : Bool). kept (b && ltb i n) (g i)) (has_box i))

  pub walls_told : (walls : List Float) → all (λ (i : ℕ). not (leb first i) || finite (at walls i)) n ≡ walls_finite s walls n
  unfolding walls_finite
  walls_told walls = all_same _ _ n (λ i l. ap (λ (b : Bool). not b || finite (at walls i)) (has_box i))

-- a wall that is not there is not finite, and its axis has a box
pub walls_missing : (s : Shape) (walls : List Float) (n : ℕ) → length walls ≡ 8 → 8 < n → false ≡ walls_finite s walls n
unfolding walls_finite finite
walls_missing s walls n long h = let missing : at walls 8 ≡ nan = get_or-eq_default walls nan (omega (arith, long)) in sym (all_fails _ n 8 h (rw (boxed_from s 8 (omega (arith, first_most s)), missing)))

-- ---- a derived wall is a number of the format

module _ (f : Format) where
  zero_fits : T (fits f +0)
  unfolding fits
  zero_fits = tt

  kept_fits : (b : Bool) (x : Float) → T (fits f x) → T (fits f (kept b x))
  kept_fits true x h = h
  kept_fits false x h = zero_fits

  table_fits : (g : ℕ → Float) (n j : ℕ) → ((i : ℕ) → T (fits f (g i))) → T (fits f (at (table g n) j))
  table_fits g n j h = go (dec_le n j)
    where
      go : Dec (n ≤ j) → T (fits f (at (table g n) j))
      go (yes o) = let q : length (table g n) ≤ j = omega (arith, table_long g n) in rw (get_or-eq_default (table g n) nan q) (nan-fits f)
      go (no o) = rw (table_at g n j (lt_of_not-le o)) (h j)

  module _ (c : FuseConfig) (j : ℕ) where
    pub low_wall_fits : T (fits f (at (derived f c).box_lo j))
    unfolding derived_from low_walls
    low_wall_fits = table_fits _ 8 j (λ i. kept_fits (boxed c.shape i && ltb i c.pos_dim) _ (add-fits f (at c.walls.lo i) c.limits.margin))

    pub high_wall_fits : T (fits f (at (derived f c).box_hi j))
    unfolding derived_from high_walls
    high_wall_fits = table_fits _ 8 j (λ i. kept_fits (boxed c.shape i && ltb i c.pos_dim) _ (sub-fits f (at c.walls.hi i) c.limits.margin))
