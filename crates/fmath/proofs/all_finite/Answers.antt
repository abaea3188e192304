-- `fmath::all_finite` meets its contract: a number that is not there is not finite, and the loop keeps the answer so far.
use mathlib.Core.Path.{◌≡◌, refl, sym}
use native.Mathlib.Omega.{arith}
use Rattle.checked.specs.Each.{all}
use Rattle.checked.specs.Finite.{finite, all_finite}
use Rattle.checked.proofs.Each.{all_more, all_missing}
use Rattle.fmath.proofs.all_finite.Goals as goal

pub returns-then-v-n : goal.returns-then-v-n
unfolding all_finite finite
returns-then-v-n c = let s = c.args in sym (all_missing finite s.v.now s.n refl c.if-v-n.true)

pub loop-i-init : goal.loop-i-init
unfolding all
loop-i-init c = refl

pub loop-i-preserved : goal.loop-i-preserved
loop-i-preserved c = all_more _ _ _ _ c.loop-i.invariant c.finite-ok.ensures

pub returns : goal.returns
unfolding all_finite
returns c = let e : c.loop-i.i ≡ c.args.n = omega arith in rw e at c.loop-i.invariant
