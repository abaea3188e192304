-- `tier1::sums::start_row` meets its contract: row 0 first, then the position over its shared coordinates.
use mathlib.Core.Path.{◌∙◌}
use native.Mathlib.Omega.{arith}
use Rattle.checked.proofs.Copy.{all_put, all_padded}
use Rattle.tier1.specs.Rule.{start_row}
use Rattle.tier1.proofs.sums.start_row.Goals as goal

pub returns : goal.returns
unfolding start_row
returns c =
    let g = c.args in
    let w = c.requires in
    let e = c.box_dims-n.ensures in
    all_put _ g.pos.now (omega arith) (omega arith) c.put.ensures ∙ rw (all_padded g.b.now w.0 w.1 c.padded-q.ensures, e)
