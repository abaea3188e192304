-- Numbers that are finite, and of those the ones above zero and the ones not below it.
use Rattle.std.specs.Prelude.{ℕ, Bool, true, false, ◌&&◌, List, pos, Float}
use Rattle.std.specs.Float.{nan, inf, fin}
use Rattle.std.specs.Float.Ieee.{lt, le}
use Rattle.checked.specs.Each.{all, at}

-- the zero that sums start from
abbrev pub +0 : Float
+0 = fin false 0 (pos 0)

-- neither a NaN nor an infinity
unfoldable pub finite : Float → Bool
finite nan = false
finite (inf s) = false
finite (fin s m e) = true

unfoldable pub above_zero : Float → Bool
above_zero x = lt +0 x && finite x

unfoldable pub not_below_zero : Float → Bool
not_below_zero x = le +0 x && finite x

-- each of the first n numbers of a list is there and is finite
unfoldable pub all_finite : List Float → ℕ → Bool
all_finite l n = all (λ (i : ℕ). finite (at l i)) n

unfoldable pub all_above_zero : List Float → ℕ → Bool
all_above_zero l n = all (λ (i : ℕ). above_zero (at l i)) n
