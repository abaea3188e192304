-- The lesser and the greater of two numbers, and the least and the greatest of some.
use Rattle.std.specs.Prelude.{ℕ, zero, suc, false, cond, Float}
use Rattle.std.specs.Float.{inf}
use Rattle.std.specs.Float.Ieee.{lt}

-- the first where it is strictly less, else the second
unfoldable pub lesser : Float → Float → Float
lesser a b = cond (lt a b) a b

-- the first where it is strictly greater, else the second
unfoldable pub greater : Float → Float → Float
greater a b = cond (lt b a) a b

-- the least of g at 0, .., n - 1, from infinity
unfoldable pub least : (ℕ → Float) → ℕ → Float
least g zero = inf false
least g (suc n) = lesser (least g n) (g n)

-- the greatest of g at 0, .., n - 1, from z
unfoldable pub greatest : Float → (ℕ → Float) → ℕ → Float
greatest z g zero = z
greatest z g (suc n) = greater (greatest z g n) (g n)
