-- Which axes have a box, by the shape: those from the first on, and no other.
use Prim.Native.Nat.{ℕ, ◌≤◌, ◌<◌}
use mathlib.Core.Path.{◌≡◌, refl}
use mathlib.Core.Bool.{true, false}
use native.Mathlib.Omega.{arith}
use borrow.Author.Tests.{le-leb, lt-leb}
use lib.Dec.{leb}
use Rattle.workspace.specs.declared.Shape.{Shape}
use Rattle.workspace.specs.declared.Shape.TheVariants.{Box, Disc}
use Rattle.workspace.specs.Shape.{first_boxed, boxed}

pub boxed_from : (s : Shape) (j : ℕ) → first_boxed s ≤ j → boxed s j ≡ true
boxed_from Box j h = refl
boxed_from (Disc x y radius) j h = le-leb 2 j h

pub boxed_before : (s : Shape) (j : ℕ) → j < first_boxed s → boxed s j ≡ false
boxed_before Box j h = absurd (omega arith)
boxed_before (Disc x y radius) j h = lt-leb 2 j h

pub first_most : (s : Shape) → first_boxed s ≤ 2
first_most Box = omega arith
first_most (Disc x y radius) = omega arith

-- as a loop tests it
pub boxed_told : (s : Shape) (j : ℕ) → leb (first_boxed s) j ≡ boxed s j
boxed_told Box j = le-leb 0 j (omega arith)
boxed_told (Disc x y radius) j = refl

-- where the first axis has one, the shape is the box
pub all_boxed : (s : Shape) → first_boxed s ≡ 0 → s ≡ Box
all_boxed Box h = refl
all_boxed (Disc x y radius) h = absurd (omega arith)
