-- `chunk::held_header` meets its contract, by its one test.
use Rattle.chunk.specs.Of.{held_header}
use Rattle.chunk.proofs.held_header.Goals as goal

pub returns-then-filled : goal.returns-then-filled
unfolding held_header
returns-then-filled c = rw c.if-filled.true

pub returns : goal.returns
unfolding held_header
returns c = rw c.if-filled.false
