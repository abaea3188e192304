-- A forecast: its slack entries in order, each with all that its place computes, and the stop distance after them.
use Rattle.std.specs.Prelude.{ℕ, zero, suc, Bool, List, Float, if◌then◌else◌}
use Rattle.std.specs.Float.Ieee.{le}
use Rattle.checked.specs.Each.{all, over}
use Rattle.checked.specs.Finite.{+0}
use Rattle.checked.specs.Least.{least}
use Rattle.checked.specs.Checked.{Checked}

pub record Forecast : Type 0 where
  -- how many entries there are if every computed number is finite
  pub count : ℕ
  -- entry k, counted from 0
  pub entry : ℕ → Checked Float
  pub stop : Checked Float

abbrev pub fine : Forecast → ℕ → Bool
fine t k = (t.entry k).sound

abbrev pub slack_at : Forecast → ℕ → Float
slack_at t k = (t.entry k).value

-- how many of the first n entries come before the first place with a number that isn't finite
unfoldable pub leading : (ℕ → Bool) → ℕ → ℕ
leading ok zero = 0
leading ok (suc n) = if all ok (suc n) then suc n else leading ok n

abbrev pub leading_in : Forecast → ℕ
leading_in t = leading (fine t) t.count

-- the place of the first number that isn't finite, counted from 1: a substep's or a row's, or the one after the last entry; 0 where each is finite
unfoldable pub place_of : Forecast → ℕ
place_of t = if all (fine t) t.count then (if t.stop.sound then 0 else suc t.count) else suc (leading_in t)

-- the least entry, or infinity where there is none
unfoldable pub margin_of : Forecast → Float
margin_of t = least (slack_at t) t.count

abbrev pub feasible_of : Forecast → Bool
feasible_of t = le +0 (margin_of t)

-- the lent entries afterwards: those before the failing place are written, the others stay
unfoldable pub written_of : Forecast → List Float → List Float
written_of t l = over (slack_at t) l (leading_in t)
