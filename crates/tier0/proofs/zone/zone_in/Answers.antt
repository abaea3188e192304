-- `tier0::zone::zone_in` meets its contract in each case of the contact, inside and outside.
use lib.Ieee.{binary64, of_bits}
use Rattle.tier0.proofs.Steps.{unconfigured, zone_inside, zone_outside}
use Rattle.tier0.proofs.zone.zone_in.Goals as goal

pub returns-in-None : goal.returns-in-None
returns-in-None c = unconfigured binary64 _ _ _ _ _ c.in-None.is c.no_zone.ensures

pub returns-then-t : goal.returns-then-t
returns-then-t c = zone_inside binary64 _ _ _ _ _ _ _ _ _ c.in-Some.is c.inside_zone-t.ensures c.if-t.true c.finite.ensures

pub returns-else-t : goal.returns-else-t
unfolding of_bits
returns-else-t c = zone_outside binary64 _ _ _ _ _ _ _ _ _ c.in-Some.is c.inside_zone-t.ensures c.if-t.false
