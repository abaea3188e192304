-- `tier0::measure::start_row` meets its contract: the position over row 0.
use mathlib.Core.Path.{◌∙◌}
use native.Mathlib.Omega.{arith}
use Rattle.checked.proofs.Copy.{all_put}
use Rattle.tier0.specs.Chunk.{start_row}
use Rattle.tier0.proofs.measure.start_row.Goals as goal

pub returns : goal.returns
unfolding start_row
returns c =
    let g = c.args in
    let w = c.requires in
    let e = c.box_dims-n.ensures in
    all_put _ g.pos.now (omega arith) (omega arith) c.put.ensures ∙ rw (c.raw_row-r.ensures, e)
