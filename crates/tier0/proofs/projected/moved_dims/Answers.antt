-- `tier0::projected::moved_dims` meets its contract: bit by bit, each below the next power of two.
use Prim.Native.Nat.{ℕ}
use mathlib.Core.Path.{refl}
use native.Mathlib.Omega.{arith}
use borrow.Author.Rules.{rules}
use lib.Ieee.{ne}
use Rattle.checked.specs.Each.{at}
use Rattle.bits.specs.Bits.{bits_where}
use Rattle.bits.proofs.Bits.{Turned, turn}
use Rattle.tier0.proofs.projected.moved_dims.Goals as goal

pub loop-i-init : goal.loop-i-init
unfolding bits_where
loop-i-init c = (search rules, (refl, refl))

turned : (c : goal.After-weight-m) → let l = c in Turned (λ (j : ℕ). ne (at l.args.a.now j) (at l.args.b.now j)) l.loop-i.i l.loop-i.m l.loop-i.w c.weight-m.result
turned c = let l = c.loop-i in turn _ l.i l.m l.w _ (omega arith) l.invariant.1.1 l.invariant.1.0 refl c.weight-m.ensures.0

pub overflow_add-m : goal.overflow_add-m
overflow_add-m c = let t = turned c in omega arith

pub loop-i-preserved : goal.loop-i-preserved
loop-i-preserved c = let t = turned c in (omega arith, (t.next, t.so_far))
