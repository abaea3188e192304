-- `envelope::pair_is_own` meets its contract: the loop keeps the answer so far.
use Prim.Native.Nat.{ℕ}
use mathlib.Core.Path.{◌≡◌}
use mathlib.Core.Bool.{not}
use Rattle.checked.specs.Each.{all}
use Rattle.envelope.specs.Slots.{zone_at}
use Rattle.envelope.specs.Refusals.{same_pair}
use Rattle.envelope.proofs.pair_is_own.Given as goal

abbrev pub invariant-loop-before : goal.invariant-loop-before
invariant-loop-before l = l.ok ≡ all (λ (i : ℕ). not (same_pair (zone_at l.fn.zones i) l.contact)) l.before-index
