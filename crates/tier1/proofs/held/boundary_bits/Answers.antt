-- `tier1::held::boundary_bits` meets its contract: six weights, none of which is large.
use Rattle.tier1.proofs.Masks.{weights_are}
use Rattle.tier1.proofs.held.boundary_bits.Goals as goal

pub returns : goal.returns
returns c = let g = c.args in weights_are g.l g.h g.n c.weight-a.ensures.0 c.weight-b.ensures.0 c.weight-c.ensures.0 c.weight-d.ensures.0 c.weight-e.ensures.0
