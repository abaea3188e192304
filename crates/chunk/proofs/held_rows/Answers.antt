-- `chunk::held_rows` meets its contract, by its one test.
use Prim.Native.Nat.{◌*◌}
use native.Mathlib.Nat.{lt_of_le_of_lt, le_of_lt}
use mathlib.Core.Path.{sym}
use borrow.Author.Rules.{rules}
use borrow.Author.Tests.{leb-true}
use lib.Dec.{leb}
use lib.ListN.{length}
use lib.Seq.{length-take-le}
use Rattle.checked.proofs.Each.{and_right}
use Rattle.chunk.specs.Rule.{held_rows}
use Rattle.chunk.proofs.Rows.{place_small}
use Rattle.chunk.proofs.held_rows.Goals as goal

pub overflow_mul-n : goal.overflow_mul-n
overflow_mul-n c = record { fits = lt_of_le_of_lt (le_of_lt (place_small {k = c.args.horizon} {d = c.args.dim} (search rules) (search rules))) (search rules) }

pub slice_bounds-result-end : goal.slice_bounds-result-end
slice_bounds-result-end c =
    let a = c.args in
    let n = a.horizon * a.dim in
    sym (length-take-le n a.«data».now (leb-true n (length a.«data».now) (and_right a.filled (leb n (length a.«data».now)) c.if-filled-n.true)))

pub returns-then-filled-n : goal.returns-then-filled-n
unfolding held_rows
returns-then-filled-n c = rw c.if-filled-n.true

pub returns-else-filled-n : goal.returns-else-filled-n
unfolding held_rows
returns-else-filled-n c = rw c.if-filled-n.false
