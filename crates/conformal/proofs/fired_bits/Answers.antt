-- `conformal::fired_bits` meets its contract: the loop keeps the word of the features passed, which stays below the next weight.
use Prim.Native.Nat.{ℕ}
use mathlib.Core.Path.{◌≡◌, refl, ◌∙◌}
use mathlib.Core.Bool.{Bool}
use native.Mathlib.Omega.{arith}
use Rattle.bits.specs.Bits.{bits_where}
use Rattle.conformal.specs.Rule.{live, fires, fired_bits}
use Rattle.bits.proofs.Bits.{Turned, turn}
use Rattle.conformal.proofs.fired_bits.Goals as goal

pub loop-j-init : goal.loop-j-init
unfolding bits_where
loop-j-init c = (refl, refl)

abbrev fired-so-far : goal.After-weight-bits → ℕ → Bool
fired-so-far c = let a = c.args in fires (live a.mask a.valid) a.tau a.z.now

turned : (c : goal.After-weight-bits) → let l = c.loop-j in Turned (fired-so-far c) l.j l.bits l.w c.weight-bits.result
turned c =
    let l = c.loop-j in
    turn (fired-so-far c) l.j l.bits l.w _ (omega arith) l.invariant.1 l.invariant.0 refl (c.weight-bits.ensures.0 ∙ rw (c.bit.ensures, c.bit-in-loop-j.ensures))

pub overflow_add-bits : goal.overflow_add-bits
overflow_add-bits c = let t = turned c in omega arith

pub overflow_mul-w : goal.overflow_mul-w
overflow_mul-w c = let t = turned c in omega arith

pub loop-j-preserved : goal.loop-j-preserved
loop-j-preserved c = let t = turned c in (t.next, t.so_far)

pub returns : goal.returns
unfolding fired_bits
returns c = let e : c.loop-j.j ≡ 12 = omega arith in rw e at c.loop-j.invariant.1
