-- `fmath::root_of_squares` meets its contract: the loop keeps the sum so far.
use Prim.Native.Nat.{ℕ, ◌<◌}
use mathlib.Core.Path.{◌≡◌}
use lib.Ieee.{Float, binary64, mul}
use Rattle.checked.specs.Finite.{+0}
use Rattle.checked.specs.Checked.{Checked, sum_from}
use Rattle.fmath.proofs.root_of_squares.Given as goal

-- s is the sum of the first j squares
abbrev pub Summed : (ℕ → Float → Type 0) → ℕ → Float → ℕ → Type 0
Summed side n s j = (g : ℕ → Checked Float) → ((k : ℕ) (d : Float) → k < n → side k d → mul binary64 d d ≡ (g k).value) → s ≡ (sum_from binary64 +0 g j).value

abbrev pub invariant-loop-j : goal.invariant-loop-j
invariant-loop-j g l = Summed (goal.F-post g l.side) l.n l.s l.j
