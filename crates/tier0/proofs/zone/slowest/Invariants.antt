-- `tier0::zone::slowest` meets its contract: the loop keeps what the zones so far say together.
use mathlib.Core.Path.{◌≡◌}
use lib.Ieee.{binary64}
use Rattle.envelope.specs.Slots.{zone_at}
use Rattle.tier0.specs.Rule.{slowest}
use Rattle.tier0.specs.Of.{zone_from}
use Rattle.tier0.proofs.zone.slowest.Given as goal

abbrev pub invariant-loop-slot : goal.invariant-loop-slot
invariant-loop-slot l = l.found ≡ zone_from (slowest binary64 l.dt l.absent_camera (zone_at l.fn.zones) l.pos l.aux l.slot-index)
