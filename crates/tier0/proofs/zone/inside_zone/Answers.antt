-- `tier0::zone::inside_zone` meets its contract, seen or not.
use lib.Ieee.{binary64}
use Rattle.tier0.proofs.Steps.{zone_seen, zone_unseen}
use Rattle.tier0.proofs.zone.inside_zone.Goals as goal

pub returns-then-pos-i : goal.returns-then-pos-i
returns-then-pos-i c = zone_seen binary64 _ _ _ _ _ _ c.if-pos-i.true c.inside_seen.ensures

pub returns : goal.returns
returns c = zone_unseen binary64 _ _ _ _ _ _ c.if-pos-i.false c.inside_unseen-holds.ensures
