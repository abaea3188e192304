-- `window::path_of` meets its contract: the loop keeps the sum of the steps so far, oldest first.
use mathlib.Core.Path.{◌≡◌}
use lib.Ieee.{binary64}
use Rattle.checked.specs.Checked.{sum_from}
use Rattle.checked.specs.Finite.{+0}
use Rattle.window.specs.Rule.{step}
use Rattle.window.proofs.path_of.Given as goal

abbrev pub invariant-loop-j : goal.invariant-loop-j
invariant-loop-j l = l.acc ≡ (sum_from binary64 +0 (step binary64 l.buf l.head l.d l.n) l.j).value
