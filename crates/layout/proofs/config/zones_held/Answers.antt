-- `layout::config::zones_held` meets its contract: each zone's test is its own function's.
use Rattle.checked.specs.Each.{every, every_from}
use Rattle.layout.specs.Config.{zones_held}
use Rattle.layout.proofs.config.zones_held.Goals as goal

pub returns : goal.returns
unfolding zones_held every every_from
returns c =
    let k = c in
    let j = k in
    rw (c.zone_held-l.ensures, k.zone_held-k.ensures, j.zone_held-j.ensures, j.zone_held-i.ensures)
