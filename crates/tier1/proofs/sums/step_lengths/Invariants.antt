-- `tier1::sums::step_lengths` meets its contract: the loop adds one step a turn.
use Prim.Native.Nat.{◌≤◌}
use mathlib.Core.Path.{◌≡◌}
use lib.Ieee.{binary64}
use Rattle.checked.specs.Checked.{sum_from}
use Rattle.checked.specs.Finite.{+0}
use Rattle.tier1.specs.Rule.{step_length}
use Rattle.tier1.proofs.sums.step_lengths.Given as goal

abbrev pub invariant-loop-i : goal.invariant-loop-i
invariant-loop-i l = (l.i ≤ l.n) × (l.s ≡ (sum_from binary64 +0 (step_length binary64 l.m l.b) l.i).value)
