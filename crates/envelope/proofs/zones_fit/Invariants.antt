-- `envelope::zones_fit` meets its contract: the loop keeps the answer so far.
use Prim.Native.Nat.{ℕ}
use mathlib.Core.Path.{◌≡◌}
use mathlib.Core.Bool.{◌&&◌}
use Rattle.checked.specs.Each.{all}
use Rattle.envelope.specs.Slots.{zone_at}
use Rattle.envelope.specs.Refusals.{channels_ok, pair_is_own}
use Rattle.envelope.proofs.zones_fit.Given as goal

abbrev pub invariant-loop-k : goal.invariant-loop-k
invariant-loop-k l = l.ok ≡ all (λ (m : ℕ). channels_ok (zone_at l.zones m) l.aux_count && pair_is_own l.zones m) l.k
