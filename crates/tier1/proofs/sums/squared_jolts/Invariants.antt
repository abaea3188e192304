-- `tier1::sums::squared_jolts` meets its contract: the loop adds one row a turn.
use Prim.Native.Nat.{◌≤◌}
use mathlib.Core.Path.{◌≡◌}
use lib.Ieee.{binary64}
use Rattle.tier1.specs.Rule.{sum_rows, jolts}
use Rattle.tier1.proofs.sums.squared_jolts.Given as goal

abbrev pub invariant-loop-i : goal.invariant-loop-i
invariant-loop-i l = (l.i ≤ l.n) × (l.s ≡ (sum_rows binary64 (jolts binary64 l.m l.b) l.m.dim l.i).value)
