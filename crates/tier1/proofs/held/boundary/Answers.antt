-- `tier1::held::boundary` meets its contract: each part is its rule's.
use Rattle.tier1.proofs.Masks.{bits_are, boundary_is}
use lib.Ieee.{binary64}
use Rattle.tier1.proofs.held.boundary.Goals as goal

pub returns : goal.returns
returns c =
    let g = c.args in
    boundary_is binary64 g.m g.k g.a.now g.pos.now g.t g.h g.b.now
    (bits_are binary64 g.m g.k g.a.now g.pos.now g.t g.h g.b.now c.overlap-l.ensures c.box_dims-n.ensures c.boundary_bits-valid.ensures)
    c.met-u.ensures c.acm_neg-w.ensures c.njr-x.ensures c.reach-y.ensures c.speed_peak-z.ensures
