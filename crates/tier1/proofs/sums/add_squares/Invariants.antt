-- `tier1::sums::add_squares` meets its contract: the loop adds one coordinate a turn.
use Prim.Native.Nat.{ℕ, ◌<◌}
use mathlib.Core.Path.{◌≡◌}
use lib.Ieee.{Float, binary64, mul}
use Rattle.checked.specs.Checked.{Checked, sum_from}
use Rattle.tier1.proofs.sums.add_squares.Given as goal

abbrev pub invariant-loop-c : goal.invariant-loop-c
invariant-loop-c g l =
    (e : ℕ → Checked Float)
    → ((c : ℕ) (x : Float) → c < l.n → goal.F-post g l.number c x → mul binary64 x x ≡ (e c).value)
    → l.s ≡ (sum_from binary64 l.from e l.c).value
