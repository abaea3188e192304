-- The rules of a box, in the words of a guard that knows no other shape. What is promised is that the rules of the workspace are these where its shape is the box.
use Rattle.std.specs.Prelude.{ℕ, Bool, ◌||◌, List, Float}
use Rattle.std.specs.Float.{Format}
use Rattle.std.specs.Float.Ieee.{lt}
use Rattle.checked.specs.Each.{at, some, over}
use Rattle.checked.specs.Checked.{Checked, pure, least_of}
use Rattle.bits.specs.Bits.{bits_where}
use Rattle.fmath.specs.Clamp.{clamped, raised, lowered}
use Rattle.workspace.specs.declared.Shape.TheVariants.{Box}
use Rattle.workspace.specs.declared.WallMasks.{WallMasks}
use Rattle.workspace.specs.Rule.{Walls, between, between_r}

-- a box with these walls
abbrev pub box : List Float → List Float → Walls
box lo hi = record { shape = Box; lo = lo; hi = hi }

-- one of the first n coordinates lies strictly beyond one of its walls
abbrev pub box_outside : (lo hi a : List Float) → ℕ → Checked Bool
box_outside lo hi a n = pure (some (λ (j : ℕ). lt (at a j) (at lo j) || lt (at hi j) (at a j)) n)

-- each of the first n coordinates is clamped to its walls
abbrev pub box_inward : (lo hi a : List Float) → ℕ → Checked (List Float)
box_inward lo hi a n = pure (over (λ (j : ℕ). clamped (at a j) (at lo j) (at hi j)) a n)

-- a bit for each that is raised, and for each that is lowered
abbrev pub box_masks : (lo hi a : List Float) → ℕ → WallMasks
box_masks lo hi a n = record { low = bits_where (λ (j : ℕ). raised (at a j) (at lo j) (at hi j)) n; high = bits_where (λ (j : ℕ). lowered (at a j) (at lo j) (at hi j)) n }

-- the least distance to a wall, and with a stopping radius taken off
abbrev pub box_slack : Format → (lo hi p : List Float) → ℕ → Checked Float
box_slack f lo hi p n = least_of (λ (j : ℕ). between f (at lo j) (at hi j) (at p j)) n

abbrev pub box_slack_r : Format → (lo hi : List Float) → Float → List Float → ℕ → Checked Float
box_slack_r f lo hi r p n = least_of (λ (j : ℕ). between_r f r (at lo j) (at hi j) (at p j)) n
