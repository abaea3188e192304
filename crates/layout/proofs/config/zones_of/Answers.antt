-- `layout::config::zones_of` meets its contract: by the law of its parts.
use Rattle.layout.proofs.Whole.{whole_zones}
use Rattle.layout.proofs.config.zones_of.Goals as goal

pub returns : goal.returns
returns c =
    let z2 = c in
    let z1 = z2 in
    let z0 = z1 in
    let n = z0 in
    let g = n.args in
    whole_zones g.n.now g.c.now n.to_u8-count.ensures z0.zone_of.ensures z1.zone_of-2.ensures z2.zone_of-3.ensures c.zone_of-4.ensures
