-- `envelope::inverses` meets its contract: the loop fills the table from the front.
use Prim.Native.Nat.{ℕ}
use mathlib.Core.Path.{◌≡◌}
use lib.Dec.{ltb}
use lib.ListN.{length, take}
use lib.Ieee.{binary64, div}
use Rattle.checked.specs.Constants.{1! }
use Rattle.checked.specs.Each.{at, table}
use Rattle.envelope.specs.Derive.{kept}
use Rattle.envelope.proofs.inverses.Given as goal

abbrev pub invariant-loop-i : goal.invariant-loop-i
invariant-loop-i l = (length l.inv ≡ 8) × (take l.i l.inv ≡ table (λ (k : ℕ). kept (ltb k l.n) (div binary64 1! (at l.scale k))) l.i)
