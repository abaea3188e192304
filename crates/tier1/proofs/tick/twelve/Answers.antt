-- `tier1::tick::twelve` meets its contract: the trail's feature, then all of them.
use Rattle.tier1.proofs.Masks.{twelve_is}
use lib.Ieee.{binary64}
use Rattle.tier1.proofs.tick.twelve.Goals as goal

pub returns : goal.returns
returns c = let g = c.args in twelve_is binary64 g.m g.t g.held g.held_valid g.ext.now c.path_ineff-p.ensures c.gathered.ensures
