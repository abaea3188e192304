-- `brake::slowed` meets its contract, coordinate by coordinate.
use Prim.Native.Nat.{◌≤◌}
use mathlib.Core.Path.{◌≡◌}
use lib.ListN.{replicate}
use lib.Ieee.{binary64}
use Rattle.checked.specs.Finite.{+0}
use Rattle.checked.specs.Checked.{each}
use Rattle.brake.specs.Rule.{scaled_at}
use Rattle.brake.proofs.slowed.Given as goal

abbrev pub invariant-loop-j : goal.invariant-loop-j
invariant-loop-j l = (l.j ≤ l.n) × (l.at ≡ (each (scaled_at binary64 l.k l.vel) (replicate 8 +0) l.j).value) × (l.sound ≡ (each (scaled_at binary64 l.k l.vel) (replicate 8 +0) l.j).sound)
