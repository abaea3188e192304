-- `tier1::sums::step_lengths` meets its contract: the loop adds one step a turn.
use mathlib.Core.Path.{refl, ap, ◌∙◌}
use native.Mathlib.Omega.{arith}
use lib.Ieee.{binary64, of_bits}
use Rattle.root.specs.Root.{root_of}
use Rattle.checked.specs.Checked.{sum_from}
use Rattle.checked.specs.Finite.{+0}
use Rattle.checked.proofs.Sums.{sum_more}
use Rattle.tier1.specs.Rule.{step_length}
use borrow.Author.Rules.{rules}
use Rattle.tier1.proofs.sums.step_lengths.Goals as goal

pub loop-i-init : goal.loop-i-init
unfolding sum_from of_bits
loop-i-init c = (search rules, refl)

pub loop-i-preserved : goal.loop-i-preserved
unfolding step_length of_bits
loop-i-preserved c =
    let g = c.args in
    let l = c.loop-i in
    (omega arith, sum_more binary64 +0 (step_length binary64 g.m g.b.now) l.i _ _ l.invariant.1 (c.sqrt-s.ensures ∙ ap (root_of binary64) (rw (c.row.ensures, c.row-in-loop-i.ensures) at c.row_gaps-q.ensures)))
