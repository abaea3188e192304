-- `envelope::pair_is_own` meets its contract: the loop keeps the answer so far.
use mathlib.Core.Path.{◌≡◌, refl, ap, ◌∙◌}
use mathlib.Core.Bool.{not}
use native.Mathlib.Omega.{arith}
use Rattle.std.proofs.lemmas.List.{get_or-take, length-take}
use Rattle.checked.specs.Each.{all}
use Rattle.checked.proofs.Each.{all_more}
use Rattle.std.specs.Prelude.{Option}
use Rattle.envelope.specs.declared.Zone.{Zone}
use Rattle.envelope.specs.Slots.{zone_at}
use Rattle.envelope.specs.Refusals.{same_pair, pair_is_own}
use Rattle.envelope.proofs.pair_is_own.Goals as goal

pub loop-before-init : goal.loop-before-init
unfolding all
loop-before-init c = refl

pub loop-before-preserved : goal.loop-before-preserved
loop-before-preserved c =
    let k = c.args.k in
    let z = c.args.zones in
    all_more _ _ _ _ c.loop-before.invariant (ap not (c.same_pair.ensures ∙ ap (λ (s : Option Zone). same_pair s (zone_at z k)) (get_or-take k z.list _ _ (omega (arith, length-take k z.list)))))

pub returns : goal.returns
unfolding pair_is_own
returns c =
    let l = c.loop-before in
    let e : l.before-index ≡ c.args.k = omega (arith, c.requires, length-take c.args.k c.args.zones.list) in
    rw e at l.invariant
