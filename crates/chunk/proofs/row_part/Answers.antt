-- `chunk::row_part` meets its contract, by its three ways out; a place in the rows is a product of two numbers of 16 bits, so it fits.
use native.Mathlib.Nat.{pos_of_ne-zero}
use native.Mathlib.Omega.{arith}
use borrow.Author.Rules.{rules}
use Rattle.chunk.proofs.Rows.{start_small, part_without_rows, part_there, part_past}
use Rattle.chunk.proofs.row_part.Goals as goal

pub returns-then-horizon-eq0 : goal.returns-then-horizon-eq0
returns-then-horizon-eq0 c = part_without_rows _ _ _ _ c.if-horizon-eq0.true

pub row_start-start-requires : goal.row_start-start-requires
row_start-start-requires c = pos_of_ne-zero c.if-horizon-eq0.false

pub overflow_add-end : goal.overflow_add-end
overflow_add-end c = let a = c.args in omega (arith, c.row_start-start.ensures, start_small a.horizon a.dim a.i (search rules) (search rules))

pub returns-then-end-len : goal.returns-then-end-len
returns-then-end-len c = let a = c.args in part_there a.len a.horizon a.dim a.i _ c.if-horizon-eq0.false c.row_start-start.ensures c.if-end-len.true

pub returns : goal.returns
returns c = let a = c.args in part_past a.len a.horizon a.dim a.i _ c.if-horizon-eq0.false c.row_start-start.ensures c.if-end-len.false
