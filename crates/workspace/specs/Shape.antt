-- The shape of the workspace: a box on every axis, or a disc over the first two coordinates with a box on the further axes. What is judged of it, and which axes have a box.
use Rattle.std.specs.Prelude.{ℕ, Bool, true, ◌&&◌, [], ◌∷◌, leb}
use Rattle.checked.specs.Each.{every}
use Rattle.checked.specs.Finite.{finite, above_zero}
use Rattle.workspace.specs.declared.Shape.{Shape}
use Rattle.workspace.specs.declared.Shape.TheVariants.{Box, Disc}

-- the first axis that has a box
abbrev pub first_boxed : Shape → ℕ
first_boxed Box = 0
first_boxed (Disc x y radius) = 2

-- axis j has a box
abbrev pub boxed : Shape → ℕ → Bool
boxed Box j = true
boxed (Disc x y radius) j = leb 2 j

-- 2: the centre is finite, the radius is above 0; a box has numbers of its own
abbrev pub shape_ok : Shape → Bool
shape_ok Box = true
shape_ok (Disc x y radius) = every (finite x ∷ finite y ∷ above_zero radius ∷ [])

-- 15: a disc lies over two coordinates, which the action and the position both have
abbrev pub spans : Shape → ℕ → ℕ → Bool
spans Box dim pos-dim = true
spans (Disc x y radius) dim pos-dim = leb 2 dim && leb 2 pos-dim
