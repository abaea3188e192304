-- `envelope::zones_ok` meets its contract: the loop keeps the answer so far.
use mathlib.Core.Path.{◌≡◌, refl, ap, ◌∙◌}
use native.Mathlib.Omega.{arith}
use Rattle.std.proofs.lemmas.List.{get_or-take, length-take}
use Rattle.checked.specs.Each.{all}
use Rattle.checked.proofs.Each.{all_more}
use Rattle.envelope.specs.Refusals.{zone_ok, zones_ok}
use Rattle.envelope.proofs.zones_ok.Goals as goal

pub loop-slot-init : goal.loop-slot-init
unfolding all
loop-slot-init c = refl

pub loop-slot-preserved : goal.loop-slot-preserved
loop-slot-preserved c =
    let n = c.counted-n.result in
    let s = c.args.zones.list in
    all_more _ _ _ _ c.loop-slot.invariant (c.zone_ok-ok.ensures ∙ ap zone_ok (get_or-take n s _ _ (omega (arith, length-take n s))))

pub returns : goal.returns
unfolding zones_ok
returns c =
    let l = c.loop-slot in
    let e : l.slot-index ≡ c.counted-n.result = omega (arith, c.counted-n.ensures, length-take c.counted-n.result c.args.zones.list) in
    rw (e, c.counted-n.ensures) at l.invariant
