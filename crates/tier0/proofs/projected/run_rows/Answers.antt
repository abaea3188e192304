-- `tier0::projected::run_rows` meets its contract: each turn projects one row from the projected one before it.
use mathlib.Core.Path.{refl, ap, ◌∙◌}
use native.Mathlib.Omega.{arith}
use borrow.Author.Rules.{rules}
use lib.ListN.{length}
use lib.Ieee.{binary64}
use Rattle.tier0.specs.Rule.{out_of_workspace}
use Rattle.tier0.proofs.Stays.{each_inside}
use Rattle.tier0.proofs.Rows.{begun, row_turn, length_put}
use Rattle.tier0.proofs.projected.run_rows.Goals as goal

pub loop-i-init : goal.loop-i-init
loop-i-init c = (search rules, (refl, begun binary64 _ _ _ _ _ _))

pub next_row-r-requires : goal.next_row-r-requires
next_row-r-requires c = let w = c in λ h. ap (out_of_workspace binary64 _) c.raw_row-a.ensures ∙ each_inside binary64 _ _ _ (w.requires.4 h) _ c.loop-i-test.true

pub loop-i-preserved : goal.loop-i-preserved
loop-i-preserved c = let l = c in (omega (arith, c.loop-i-test.true), (ap length c.put_row.ensures ∙ length_put _ _ _ _ ∙ l.loop-i.invariant.1.0, row_turn binary64 _ _ _ _ _ _ _ _ _ _ _ _ _ _ _ l.loop-i.invariant.1.1 c.raw_row-a.ensures c.next_row-r.ensures c.moved_dims-mask.ensures c.put_row.ensures))
