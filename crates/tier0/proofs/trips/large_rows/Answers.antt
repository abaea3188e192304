-- `tier0::trips::large_rows` meets its contract: the loop keeps the answer so far.
use mathlib.Core.Path.{refl}
use native.Mathlib.Omega.{arith}
use lib.Ieee.{binary64}
use Rattle.checked.specs.Each.{all, some}
use Rattle.chunk.proofs.Rows.{row_fits}
use Rattle.tier0.specs.Chunk.{some_of, large_at}
use Rattle.tier0.proofs.Rows.{some_turn}
use Rattle.tier0.proofs.trips.large_rows.Goals as goal

pub loop-i-init : goal.loop-i-init
unfolding some_of some all
loop-i-init c = (omega arith, (refl, refl))

pub large_at-t-requires : goal.large_at-t-requires
large_at-t-requires c = let w = c.requires in rw (← c.further-n.ensures) (w.0, omega (arith, c.loop-i-test.true, w.1), row_fits _ _ _ _ (omega (arith, c.loop-i-test.true)) w.2)

pub loop-i-preserved : goal.loop-i-preserved
loop-i-preserved c = let l = c.loop-i in let g = c.args in (omega (arith, c.loop-i-test.true), some_turn (large_at binary64 g.s g.d g.q g.rows.now) l.i _ _ _ l.invariant.1 c.large_at-t.ensures)
