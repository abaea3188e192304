-- `tier0::zone::slowest` meets its contract: the loop keeps what the zones so far say together.
use mathlib.Core.Path.{ap, ◌∙◌}
use native.Mathlib.Omega.{arith}
use lib.Ieee.{binary64}
use Rattle.std.proofs.lemmas.List.{get_or-take, length-take}
use Rattle.std.specs.Prelude.{Option}
use Rattle.envelope.specs.declared.Zone.{Zone}
use Rattle.tier0.specs.Rule.{zone_in}
use Rattle.tier0.specs.Of.{zone_from}
use Rattle.tier0.proofs.Steps.{none_asked, one_more_asked}
use Rattle.tier0.proofs.zone.slowest.Goals as goal

pub loop-slot-init : goal.loop-slot-init
loop-slot-init c = none_asked binary64 _ _ _ _ _ c.no_zone-found.ensures

pub loop-slot-preserved : goal.loop-slot-preserved
loop-slot-preserved c =
    let l = c.loop-slot in
    let s = c.args in
    let n = c.counted-n.result in
    let same = get_or-take n s.zones.list _ _ (omega (arith, length-take n s.zones.list)) in
    let z = c.zone_in-z.ensures ∙ ap (λ (z : Option Zone). zone_from (zone_in binary64 s.dt s.absent_camera z s.pos.now s.aux.now)) same in
    one_more_asked binary64 _ _ _ _ _ l.slot-index l.invariant z c.slower-found.ensures
