-- `lictor::answer::put_lent` meets its contract: by the test for a chunk.
use Rattle.lictor.proofs.answer.put_lent.Goals as goal

pub returns-then-came : goal.returns-then-came
returns-then-came c = let t = c.if-came.true in (rw t c.put_rows.ensures, rw t c.put_header.ensures)

pub returns-else-came : goal.returns-else-came
returns-else-came c = let t = c.if-came.false in (rw t, rw t)
