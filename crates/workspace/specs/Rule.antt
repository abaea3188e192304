-- The workspace, over the format: whether a point is outside, a point moved inside and by which walls, the setpoint at a position, and the slack that is
-- left. Nothing else reads the shape or the walls, and whatever is computed is checked.
use Rattle.std.specs.Prelude.{ℕ, zero, suc, ◌-◌, Bool, false, ◌&&◌, ◌||◌, List, [], ◌∷◌, Float, if◌then◌else◌}
use Rattle.std.specs.Float.{Format}
use Rattle.std.specs.Float.Ieee.{lt}
use Rattle.checked.specs.Each.{at, some, over}
use Rattle.checked.specs.Least.{lesser}
use Rattle.checked.specs.Row.{eight}
use Rattle.bits.specs.Bits.{bits_where}
use Rattle.fmath.specs.Clamp.{clamped, raised, lowered}
use Rattle.fmath.specs.Norm.{dist}
use Rattle.checked.specs.Checked.{Checked, ◌>>=◌, pure, minus, least_of}
use Rattle.pull.specs.Rule.{pulled}
use Rattle.workspace.specs.declared.Shape.{Shape}
use Rattle.workspace.specs.declared.Shape.TheVariants.{Box, Disc}
use Rattle.workspace.specs.declared.WallMasks.{WallMasks}
use Rattle.workspace.specs.Shape.{boxed}

-- the shape, and the walls of the axes that have a box, already moved inward by the margin, which does not move a disc
pub record Walls : Type 0 where
  pub shape : Shape
  pub lo : List Float
  pub hi : List Float

-- ---- where a point lies

-- the distance from the centre
abbrev pub from_centre : Format → Float → Float → List Float → Checked Float
from_centre f x y a = dist f a (x ∷ y ∷ []) 2

-- a point is past the edge of the disc: the distance exceeds the radius, strictly. A box has no such edge, and nothing is computed
unfoldable pub past_edge : Format → Shape → List Float → Checked Bool
past_edge f Box a = pure false
past_edge f (Disc x y radius) a = do
  n ← from_centre f x y a
  pure (lt radius n)

-- coordinate j has a box, and lies strictly beyond one of its walls
abbrev pub beyond : Walls → List Float → ℕ → Bool
beyond w a j = boxed w.shape j && (lt (at a j) (at w.lo j) || lt (at w.hi j) (at a j))

-- past the edge, or one of the first n coordinates beyond a wall
unfoldable pub outside : Format → Walls → List Float → ℕ → Checked Bool
outside f w a n = do
  past ← past_edge f w.shape a
  pure (past || some (beyond w a) n)

-- ---- a point moved inside

-- where it is past the edge, pulled towards the centre, as a leash pulls
unfoldable pub onto_disc : Format → Shape → List Float → Checked (List Float)
onto_disc f Box a = pure a
onto_disc f (Disc x y radius) a = pulled f radius (x ∷ y ∷ []) 2 a

-- coordinate j inside its walls, where it has a box
abbrev pub inside_at : Walls → List Float → ℕ → Float
inside_at w a j = if boxed w.shape j then clamped (at a j) (at w.lo j) (at w.hi j) else at a j

-- onto the disc, and then those of the first n coordinates that have a box inside their walls
unfoldable pub inward : Format → Walls → List Float → ℕ → Checked (List Float)
inward f w a n = do
  b ← onto_disc f w.shape a
  pure (over (inside_at w b) b n)

-- ---- which walls move a point, in the move above; the disc has none

-- the low wall of axis j raises a point; the high wall lowers it
abbrev pub raised_at : Walls → List Float → ℕ → Bool
raised_at w a j = boxed w.shape j && raised (at a j) (at w.lo j) (at w.hi j)

abbrev pub lowered_at : Walls → List Float → ℕ → Bool
lowered_at w a j = boxed w.shape j && lowered (at a j) (at w.lo j) (at w.hi j)

-- a bit for each of the first n coordinates that is raised, and for each that is lowered
unfoldable pub wall_masks : Walls → List Float → ℕ → WallMasks
wall_masks w a n = record { low = bits_where (raised_at w a) n; high = bits_where (lowered_at w a) n }

-- a bit for each coordinate on which any of h points is raised, and for each on which any is lowered
unfoldable pub any_masks : Walls → (ℕ → List Float) → ℕ → ℕ → WallMasks
any_masks w a h n = record {
  low = bits_where (λ (j : ℕ). some (λ (i : ℕ). raised_at w (a i) j) h) n;
  high = bits_where (λ (j : ℕ). some (λ (i : ℕ). lowered_at w (a i) j) h) n;
}

-- no wall moves it
abbrev pub unmoved : WallMasks
unmoved = record { low = 0; high = 0 }

-- ---- the setpoint

-- what stays at a position goes towards: the position, 0.0 where it has no such coordinate, moved inside on the first n
unfoldable pub setpoint : Format → Walls → List Float → ℕ → Checked (List Float)
setpoint f w p n = inward f w (eight p 8) n

-- the walls that move it there, on the first n
unfoldable pub setpoint_masks : Walls → List Float → ℕ → WallMasks
setpoint_masks w p n = wall_masks w (eight p 8) n

-- ---- the slack: the least distance to the edge and the walls, over the first n coordinates

-- on one axis: the lesser of p - lo and hi - p
unfoldable pub between : Format → Float → Float → Float → Checked Float
between f lo hi p = do
  low ← minus f p lo
  high ← minus f hi p
  pure (lesser low high)

-- on one axis with a stopping radius taken off: the lesser of p - r - lo and hi - p - r
unfoldable pub between_r : Format → Float → Float → Float → Float → Checked Float
between_r f r lo hi p = do
  near ← minus f p r
  low ← minus f near lo
  far ← minus f hi p
  high ← minus f far r
  pure (lesser low high)

abbrev pub gap : Format → Walls → List Float → ℕ → Checked Float
gap f w p j = between f (at w.lo j) (at w.hi j) (at p j)

abbrev pub gap_r : Format → Walls → Float → List Float → ℕ → Checked Float
gap_r f w r p j = between_r f r (at w.lo j) (at w.hi j) (at p j)

-- on the disc: radius - distance
unfoldable pub to_edge : Format → Float → Float → Float → List Float → Checked Float
to_edge f x y radius p = do
  n ← from_centre f x y p
  minus f radius n

-- and with a stopping radius taken off: (radius - distance) - r
unfoldable pub to_edge_r : Format → Float → Float → Float → Float → List Float → Checked Float
to_edge_r f x y radius r p = do
  d ← to_edge f x y radius p
  minus f d r

-- the disc's first, then those of axes 2, 3, ..
abbrev pub edge_first : Checked Float → (ℕ → Checked Float) → ℕ → Checked Float
edge_first edge axis zero = edge
edge_first edge axis (suc k) = axis (suc (suc k))

unfoldable pub slack_in : Format → Shape → Walls → List Float → ℕ → Checked Float
slack_in f Box w p n = least_of (gap f w p) n
slack_in f (Disc x y radius) w p n = least_of (edge_first (to_edge f x y radius p) (gap f w p)) (suc (n - 2))

unfoldable pub slack_in_r : Format → Shape → Walls → Float → List Float → ℕ → Checked Float
slack_in_r f Box w r p n = least_of (gap_r f w r p) n
slack_in_r f (Disc x y radius) w r p n = least_of (edge_first (to_edge_r f x y radius r p) (gap_r f w r p)) (suc (n - 2))

abbrev pub slack : Format → Walls → List Float → ℕ → Checked Float
slack f w p n = slack_in f w.shape w p n

abbrev pub slack_r : Format → Walls → Float → List Float → ℕ → Checked Float
slack_r f w r p n = slack_in_r f w.shape w r p n
