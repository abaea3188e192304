-- `tier0::trips::bent` meets its contract: one coordinate a turn, with one test of it.
use mathlib.Core.Path.{refl}
use native.Mathlib.Nat.{le_antisymm}
use native.Mathlib.Omega.{arith}
use borrow.Author.Rules.{rules}
use lib.ListN.{replicate}
use lib.Ieee.{binary64, of_bits}
use Rattle.checked.specs.Each.{at}
use Rattle.checked.specs.Finite.{+0}
use Rattle.checked.specs.Checked.{each}
use Rattle.checked.proofs.Told.{each_value, each_sound, a_row}
use Rattle.tier0.specs.Chunk.{bend, bends}
use Rattle.tier0.proofs.Rows.{bend_tells}
use Rattle.tier0.proofs.trips.bent.Goals as goal

pub loop-i-init : goal.loop-i-init
unfolding each of_bits
loop-i-init c = (search rules, (refl, refl))

pub loop-i-preserved : goal.loop-i-preserved
unfolding bend of_bits
loop-i-preserved c = let l = c in let g = l.args in let e = bends binary64 g.next.now g.here.now g.before.now in (omega arith, (each_value e (replicate 8 +0) l.loop-i.i _ _ l.loop-i.invariant.1.0 refl, each_sound e (replicate 8 +0) l.loop-i.i _ _ _ l.loop-i.invariant.1.1 c.finite-sound.ensures refl (bend_tells binary64 (at g.next.now l.loop-i.i) (at g.here.now l.loop-i.i) (at g.before.now l.loop-i.i))))

pub returns : goal.returns
returns c = let l = c in let e = le_antisymm l.loop-i.invariant.0 c.loop-i-test.false in a_row _ (rw e at l.loop-i.invariant.1.0) (rw e at l.loop-i.invariant.1.1)
