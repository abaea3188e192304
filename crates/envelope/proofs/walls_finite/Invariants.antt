-- `envelope::walls_finite` meets its contract: a ninth wall is not there, and the loop keeps the answer so far.
use Prim.Native.Nat.{ℕ}
use mathlib.Core.Path.{◌≡◌}
use mathlib.Core.Bool.{not, ◌||◌}
use lib.Dec.{leb}
use Rattle.checked.specs.Each.{at, all}
use Rattle.checked.specs.Finite.{finite}
use Rattle.envelope.proofs.walls_finite.Given as goal

abbrev pub invariant-loop-i : goal.invariant-loop-i
invariant-loop-i l = l.ok ≡ all (λ (k : ℕ). not (leb l.first k) || finite (at l.fn.walls k)) l.i
