-- `tier0::trips::trip_bits` meets its contract: six weights, none of which is large.
use Rattle.tier0.proofs.Steps.{trips_are}
use Rattle.tier0.proofs.trips.trip_bits.Goals as goal

pub returns : goal.returns
returns c = let g = c.args in trips_are g.out g.fast g.bent g.jolted g.far g.close c.weight-a.ensures.0 c.weight-b.ensures.0 c.weight-c.ensures.0 c.weight-d.ensures.0 c.weight-e.ensures.0 c.weight-f.ensures.0
