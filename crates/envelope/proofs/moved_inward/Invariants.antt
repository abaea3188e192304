-- `envelope::moved_inward` meets its contract: the loop fills both tables from the front, with the walls of axes that have a box.
use Prim.Native.Nat.{ℕ}
use mathlib.Core.Path.{◌≡◌}
use mathlib.Core.Bool.{◌&&◌}
use lib.Dec.{leb, ltb}
use lib.ListN.{length, take}
use lib.Ieee.{binary64, add, sub}
use Rattle.checked.specs.Each.{at, table}
use Rattle.envelope.specs.Derive.{kept}
use Rattle.envelope.proofs.moved_inward.Given as goal

abbrev pub invariant-loop-i : goal.invariant-loop-i
invariant-loop-i l = record {
  low_wide : length l.lo ≡ 8;
  low : take l.i l.lo ≡ table (λ (k : ℕ). kept (leb l.first k && ltb k l.n) (add binary64 (at l.walls.lo k) l.margin)) l.i;
  high_wide : length l.hi ≡ 8;
  high : take l.i l.hi ≡ table (λ (k : ℕ). kept (leb l.first k && ltb k l.n) (sub binary64 (at l.walls.hi k) l.margin)) l.i;
}
