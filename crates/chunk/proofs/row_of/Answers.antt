-- `chunk::row_of` meets its contract: the part that it gives lies among the numbers and holds the row.
use native.Mathlib.Omega.{arith}
use Rattle.chunk.proofs.Rows.{part_ordered, part_within, part_holds}
use Rattle.chunk.proofs.row_of.Goals as goal

pub offset_bounds-rows-start : goal.offset_bounds-rows-start
offset_bounds-rows-start c = omega (arith, part_ordered _ _ _ _ _ c.row_part-part.ensures, part_within _ _ _ _ _ c.row_part-part.ensures)

pub slice_bounds-result-count : goal.slice_bounds-result-count
slice_bounds-result-count c = part_ordered _ _ _ _ _ c.row_part-part.ensures

pub slice_bounds-result-start : goal.slice_bounds-result-start
slice_bounds-result-start c = part_ordered _ _ _ _ _ c.row_part-part.ensures

pub slice_bounds-result-end : goal.slice_bounds-result-end
slice_bounds-result-end c = part_within _ _ _ _ _ c.row_part-part.ensures

pub returns : goal.returns
returns c = part_holds _ _ _ _ _ c.row_part-part.ensures
