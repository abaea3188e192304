-- `tier1::sums::add_squares` meets its contract: the loop adds one coordinate a turn.
use mathlib.Core.Path.{refl}
use lib.Ieee.{binary64}
use Rattle.checked.specs.Checked.{sum_from}
use Rattle.checked.proofs.Sums.{sum_more}
use Rattle.tier1.proofs.sums.add_squares.Goals as goal

pub loop-c-init : goal.loop-c-init
unfolding sum_from
loop-c-init g c = λ e h. refl

pub loop-c-preserved : goal.loop-c-preserved
loop-c-preserved g c = λ e h. let l = c.loop-c in sum_more binary64 c.args.from e l.c _ _ (l.invariant e h) (h l.c _ c.loop-c-test.true c.number-x.ensures)
