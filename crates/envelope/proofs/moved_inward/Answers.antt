-- `envelope::moved_inward` meets its contract: the loop fills both tables from the front, with the walls of axes that have a box.
use Prim.Native.Nat.{ℕ}
use mathlib.Core.Path.{refl, ◌∙◌}
use native.Mathlib.Omega.{arith}
use lib.ListN.{length-set}
use lib.Ieee.{binary64, add, sub}
use Rattle.checked.specs.Each.{at, table}
use Rattle.checked.proofs.Each.{table_more, table_all}
use Rattle.envelope.specs.Derive.{low_walls, high_walls}
use Rattle.envelope.proofs.Walls.{walls_kept}
use Rattle.envelope.proofs.moved_inward.Goals as goal

pub loop-i-init : goal.loop-i-init
unfolding table
loop-i-init c = record { low_wide = refl; low = refl; high_wide = refl; high = refl }

pub loop-i-preserved : goal.loop-i-preserved
loop-i-preserved c =
    let l = c.loop-i in record {
      low_wide = simp length-set l.invariant.low_wide;
      low = table_more _ _ _ _ (omega arith) l.invariant.low c.keep.ensures;
      high_wide = simp length-set l.invariant.high_wide;
      high = table_more _ _ _ _ (omega arith) l.invariant.high c.keep-in-loop-i.ensures;
    }

pub returns-clause-lo : goal.returns-clause-lo
unfolding low_walls
returns-clause-lo c =
    let s = c.args in
    table_all _ _ _ _ (omega arith) c.loop-i.invariant.low_wide c.loop-i.invariant.low ∙ walls_kept s.shape c.first_boxed-first.ensures s.n (λ (k : ℕ). add binary64 (at s.walls.lo k) s.margin)

pub returns-clause-hi : goal.returns-clause-hi
unfolding high_walls
returns-clause-hi c =
    let s = c.args in
    table_all _ _ _ _ (omega arith) c.loop-i.invariant.high_wide c.loop-i.invariant.high ∙ walls_kept s.shape c.first_boxed-first.ensures s.n (λ (k : ℕ). sub binary64 (at s.walls.hi k) s.margin)
