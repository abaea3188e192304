-- `tier0::walls::any_masks` meets its contract: the loop joins the masks of one row a turn.
use native.Mathlib.Omega.{arith}
use Rattle.workspace.proofs.Masks.{none_looked_at, one_more}
use Rattle.tier0.proofs.walls.any_masks.Goals as goal

pub loop-i-init : goal.loop-i-init
loop-i-init c = (omega arith, none_looked_at _ _ _)

pub loop-i-preserved : goal.loop-i-preserved
loop-i-preserved c =
    let l = c.loop-i in
    (omega (arith, c.loop-i-test.true), one_more _ _ l.i _ l.invariant.1 c.raw_row-a.ensures c.wall_masks-m.ensures)
