-- `tier0::zone::inside_seen` meets its contract: the distance, compared with the radius.
use lib.Ieee.{binary64}
use Rattle.tier0.proofs.Steps.{seen_inside}
use Rattle.tier0.proofs.zone.inside_seen.Goals as goal

pub returns : goal.returns
returns c = seen_inside binary64 _ _ _ _ _ c.distance-far.ensures c.finite-sound.ensures
