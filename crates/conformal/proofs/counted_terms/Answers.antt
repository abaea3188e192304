-- `conformal::counted_terms` meets its contract: the loop keeps both answers so far over all eight terms.
use mathlib.Core.Path.{◌≡◌, refl}
use native.Mathlib.Omega.{arith}
use Rattle.checked.specs.Each.{all}
use Rattle.checked.proofs.Each.{all_more}
use Rattle.conformal.proofs.counted_terms.Goals as goal

pub loop-i-init : goal.loop-i-init
unfolding all
loop-i-init c = (refl, refl)

pub loop-i-preserved : goal.loop-i-preserved
loop-i-preserved c =
    let l = c.loop-i in
    (all_more _ _ _ _ l.invariant.0 refl, all_more _ _ _ _ l.invariant.1 (rw c.bit-stall.ensures))

pub returns : goal.returns
returns c =
    let l = c.loop-i in
    let e : l.i ≡ 8 = omega arith in
    rw (rw e at l.invariant.0, rw e at l.invariant.1)
