-- `tier0::projected::moved_dims` meets its contract: bit by bit, each below the next power of two.
use Prim.Native.Nat.{◌≤◌, ◌^◌}
use mathlib.Core.Path.{◌≡◌}
use Rattle.tier0.specs.Rule.{moved_dims}
use Rattle.tier0.proofs.projected.moved_dims.Given as goal

abbrev pub invariant-loop-i : goal.invariant-loop-i
invariant-loop-i l = (l.i ≤ l.n) × ((l.w ≡ 2 ^ l.i) × (l.m ≡ moved_dims l.a l.b l.i))
