-- `tier1::sums::peak` meets its contract: the loop takes one step more a turn.
use Prim.Native.Nat.{◌+◌, ◌≤◌}
use mathlib.Core.Path.{◌≡◌}
use mathlib.Core.List.{List}
use lib.Ieee.{Float, binary64}
use Rattle.fmath.specs.Norm.{dist}
use Rattle.tier1.specs.Rule.{peak}
use Rattle.tier1.proofs.sums.peak.Given as goal

abbrev pub invariant-loop-i : goal.invariant-loop-i
invariant-loop-i l = (l.i + 1 ≤ l.h) × ((q : List Float) → l.n ≡ (dist binary64 l.b q l.d).value → (l.most ≡ (peak binary64 l.d q l.b (l.i + 1)).value) × (l.sound ≡ (peak binary64 l.d q l.b (l.i + 1)).sound))
