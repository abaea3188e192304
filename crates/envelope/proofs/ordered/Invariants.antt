-- `envelope::ordered` meets its contract: the loop keeps the answer so far, and what is left of both tables.
use Prim.Native.Nat.{ℕ, ◌≤◌}
use mathlib.Core.Path.{◌≡◌}
use mathlib.Core.Bool.{not}
use lib.Ieee.{lt}
use lib.ListN.{length, drop}
use Rattle.checked.specs.Each.{at, all}
use Rattle.envelope.proofs.ordered.Given as goal

abbrev pub invariant-loop-low : goal.invariant-loop-low
invariant-loop-low l = record {
  within : length l.yielded ≤ 8;
  so_far : l.ok ≡ all (λ (k : ℕ). not (lt (at l.hi k) (at l.lo k))) (length l.yielded);
  low_left : l.low-iterator.a.rest.now ≡ drop (length l.yielded) l.lo;
  high_left : l.low-iterator.b.rest.now ≡ drop (length l.yielded) l.hi;
}
