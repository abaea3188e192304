-- `tier1::sums::squared_gaps` meets its contract: the loop adds one row a turn.
use mathlib.Core.Path.{refl}
use native.Mathlib.Omega.{arith}
use lib.Ieee.{binary64, of_bits}
use Rattle.tier1.specs.Rule.{sum_rows, gaps}
use Rattle.tier1.proofs.Rows.{rows_more}
use borrow.Author.Rules.{rules}
use Rattle.tier1.proofs.sums.squared_gaps.Goals as goal

pub loop-i-init : goal.loop-i-init
unfolding sum_rows of_bits
loop-i-init c = (search rules, refl)

pub loop-i-preserved : goal.loop-i-preserved
loop-i-preserved c =
    let g = c.args in
    let l = c.loop-i in
    (omega arith, rows_more binary64 (gaps binary64 g.m g.a.now g.k g.b.now) g.m.dim l.i _ _ l.invariant.1 (rw (c.row.ensures, c.row-in-loop-i.ensures) at c.row_gaps-s.ensures))
