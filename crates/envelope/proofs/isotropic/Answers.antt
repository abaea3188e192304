-- `envelope::isotropic` meets its contract: the loop keeps the least of the scales passed.
use Prim.Native.Nat.{min}
use mathlib.Core.Path.{◌≡◌, refl, ◌∙◌}
use native.Mathlib.Omega.{arith}
use lib.Ieee.{div, of_bits}
use Rattle.std.proofs.lemmas.List.{get_or-take, length-take}
use Rattle.checked.specs.Each.{at}
use Rattle.checked.specs.Least.{least}
use Rattle.checked.proofs.Extremes.{least_more}
use Rattle.envelope.specs.Derive.{isotropic}
use Rattle.envelope.proofs.isotropic.Goals as goal

pub loop-x-init : goal.loop-x-init
unfolding least div of_bits
loop-x-init c = refl

pub loop-x-preserved : goal.loop-x-preserved
loop-x-preserved c =
    let l = c.loop-x in
    let s = c.args.scale.now in
    c.min-least.ensures ∙ least_more (at s) l.x-index _ _ l.invariant (get_or-take c.min.result s _ _ (omega (arith, length-take c.min.result s)))

pub returns : goal.returns
unfolding isotropic
returns c =
    let l = c.loop-x in
    let e : l.x-index ≡ min c.args.n 8 = omega (arith, c.min.ensures, length-take c.min.result c.args.scale.now) in
    rw e at l.invariant
