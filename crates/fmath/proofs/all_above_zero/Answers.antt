-- `fmath::all_above_zero` meets its contract: a number that is not there is not above zero, and the loop keeps both answers so far.
use Prim.Native.Nat.{ℕ}
use mathlib.Core.Path.{◌≡◌, refl, sym, ◌∙◌}
use native.Mathlib.Omega.{arith}
use lib.Ieee.{lt, of_bits}
use Rattle.checked.specs.Each.{all, at}
use Rattle.checked.specs.Finite.{+0, finite, above_zero, all_above_zero}
use Rattle.checked.proofs.Each.{◌&&≡◌, all_more, all_both, all_missing}
use Rattle.fmath.proofs.all_above_zero.Goals as goal

pub returns-then-v-n : goal.returns-then-v-n
unfolding all_above_zero above_zero lt
returns-then-v-n c = let s = c.args in sym (all_missing above_zero s.v.now s.n refl c.if-v-n.true)

pub loop-i-init : goal.loop-i-init
unfolding all
loop-i-init c = (refl, refl)

pub loop-i-preserved : goal.loop-i-preserved
unfolding of_bits
loop-i-preserved c = let l = c.loop-i.invariant in (all_more _ _ _ _ l.0 refl, all_more _ _ _ _ l.1 c.finite-real.ensures)

pub returns : goal.returns
unfolding all_above_zero above_zero
returns c = let l = c.loop-i in
    let e : l.i ≡ c.args.n = omega arith in
    (rw e at l.invariant.0) &&≡ (rw e at l.invariant.1) ∙ all_both (λ (k : ℕ). lt +0 (at c.args.v.now k)) (λ (k : ℕ). finite (at c.args.v.now k)) c.args.n
