-- `tier1::sums::squared_gaps` meets its contract: the loop adds one row a turn.
use Prim.Native.Nat.{◌≤◌}
use mathlib.Core.Path.{◌≡◌}
use lib.Ieee.{binary64}
use Rattle.tier1.specs.Rule.{sum_rows, gaps}
use Rattle.tier1.proofs.sums.squared_gaps.Given as goal

abbrev pub invariant-loop-i : goal.invariant-loop-i
invariant-loop-i l = (l.i ≤ l.n) × (l.s ≡ (sum_rows binary64 (gaps binary64 l.m l.a l.k l.b) l.m.dim l.i).value)
