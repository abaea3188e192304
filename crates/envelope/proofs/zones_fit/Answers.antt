-- `envelope::zones_fit` meets its contract: the loop keeps the answer so far.
use mathlib.Core.Path.{◌≡◌, refl, ap, ◌∙◌}
use native.Mathlib.Omega.{arith}
use Rattle.std.proofs.lemmas.List.{get_or-take, length-take}
use Rattle.checked.specs.Each.{all}
use Rattle.checked.proofs.Each.{all_more, ◌&&≡◌}
use Rattle.std.specs.Prelude.{Option}
use Rattle.envelope.specs.declared.Zone.{Zone}
use Rattle.envelope.specs.Refusals.{channels_ok, zones_fit}
use Rattle.envelope.proofs.zones_fit.Goals as goal

pub loop-k-init : goal.loop-k-init
unfolding all
loop-k-init c = refl

pub pair_is_own-own-requires : goal.pair_is_own-own-requires
pair_is_own-own-requires c = omega (arith, c.counted-n.ensures, length-take c.counted-n.result c.args.zones.list)

pub loop-k-preserved : goal.loop-k-preserved
loop-k-preserved c =
    let n = c.counted-n.result in
    let s = c.args.zones.list in
    let same = ap (λ (z : Option Zone). channels_ok z c.args.aux_count) (get_or-take n s _ _ (omega (arith, length-take n s))) in
    all_more _ _ _ _ c.loop-k.invariant ((c.channels_ok-right.ensures ∙ same) &&≡ c.pair_is_own-own.ensures)

pub returns : goal.returns
unfolding zones_fit
returns c =
    let l = c.loop-k in
    let e : l.k ≡ c.counted-n.result = omega (arith, c.counted-n.ensures, length-take c.counted-n.result c.args.zones.list) in
    rw (e, c.counted-n.ensures) at l.invariant
