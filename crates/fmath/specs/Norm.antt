-- norm and dist: the root of the squares summed left to right from 0.0.
use Rattle.std.specs.Prelude.{ℕ, ◌<◌, ◌≡◌, List, Float}
use Rattle.std.specs.Float.{Format, binary64}
use Rattle.std.specs.Float.Ieee.{mul}
use Rattle.root.specs.Root.{root_of}
use Rattle.checked.specs.Each.{at}
use Rattle.checked.specs.Finite.{+0}
use Rattle.checked.specs.Checked.{Checked, ◌>>=◌, minus, times, root, sum_from}

unfoldable pub square_at : Format → List Float → ℕ → Checked Float
square_at f v j = times f (at v j) (at v j)

-- the length of the first n coordinates of v
unfoldable pub norm : Format → List Float → ℕ → Checked Float
norm f v n = do
  s ← sum_from f +0 (square_at f v) n
  root f s

unfoldable pub squared_gap : Format → List Float → List Float → ℕ → Checked Float
squared_gap f a b j = do
  d ← minus f (at a j) (at b j)
  times f d d

-- the distance of a and b over their first n coordinates
unfoldable pub dist : Format → List Float → List Float → ℕ → Checked Float
dist f a b n = do
  s ← sum_from f +0 (squared_gap f a b) n
  root f s

-- r is the root of the sum of g, where the square of each side that is given is g's
abbrev pub RootOfSquares : (ℕ → Float → Type 0) → ℕ → Float → Type 0
RootOfSquares side n r = (g : ℕ → Checked Float) → ((j : ℕ) (d : Float) → j < n → side j d → mul binary64 d d ≡ (g j).value) → r ≡ root_of binary64 (sum_from binary64 +0 g n).value
