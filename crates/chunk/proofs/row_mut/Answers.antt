-- `chunk::row_mut` meets its contract: the part that it gives lies among the numbers, holds the row and stands in its place.
use Prim.Native.Nat.{◌+◌, ◌*◌}
use mathlib.Core.Path.{ap}
use native.Mathlib.Omega.{arith}
use Rattle.chunk.specs.declared.Part.{Part}
use Rattle.chunk.proofs.Rows.{part_ordered, part_within, part_holds}
use Rattle.chunk.proofs.row_mut.Goals as goal

pub offset_bounds-data-start : goal.offset_bounds-data-start
offset_bounds-data-start c = omega (arith, part_ordered _ _ _ _ _ c.row_part-part.ensures, part_within _ _ _ _ _ c.row_part-part.ensures)

pub slice_bounds-result-count : goal.slice_bounds-result-count
slice_bounds-result-count c = part_ordered _ _ _ _ _ c.row_part-part.ensures

pub slice_bounds-data-start : goal.slice_bounds-data-start
slice_bounds-data-start c = part_ordered _ _ _ _ _ c.row_part-part.ensures

pub slice_bounds-data-end : goal.slice_bounds-data-end
slice_bounds-data-end c = part_within _ _ _ _ _ c.row_part-part.ensures

pub returns : goal.returns
returns c =
    let l = c.args.«data» in
    let e = c.row_part-part.ensures in
    (part_holds _ _ _ _ _ e, ap (λ (p : Part). (l.ref_ptr.0, p.start * 8 + l.ref_ptr.1)) e)
