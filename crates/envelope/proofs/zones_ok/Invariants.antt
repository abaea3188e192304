-- `envelope::zones_ok` meets its contract: the loop keeps the answer so far.
use Prim.Native.Nat.{ℕ}
use mathlib.Core.Path.{◌≡◌}
use Rattle.checked.specs.Each.{all}
use Rattle.envelope.specs.Slots.{zone_at}
use Rattle.envelope.specs.Refusals.{zone_ok}
use Rattle.envelope.proofs.zones_ok.Given as goal

abbrev pub invariant-loop-slot : goal.invariant-loop-slot
invariant-loop-slot l = l.ok ≡ all (λ (m : ℕ). zone_ok (zone_at l.fn.zones m)) l.slot-index
