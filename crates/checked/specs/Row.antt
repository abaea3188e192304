-- A row of eight numbers.
use Rattle.std.specs.Prelude.{ℕ, min, List, Float, length, replicate}
use Rattle.checked.specs.Each.{at, over}
use Rattle.checked.specs.Finite.{+0}

-- the first n numbers of a list, and zeros up to eight
unfoldable pub padded : List Float → ℕ → List Float
padded a n = over (at a) (replicate 8 +0) n

-- likewise, with as many of its first n numbers as there are
unfoldable pub eight : List Float → ℕ → List Float
eight a n = padded a (min n (length a))
