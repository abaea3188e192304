-- `brake::scaled` meets its contract: by whether the number is there.
use borrow.Author.Tests.{lt-ltb, le-ltb}
use lib.Ieee.{of_bits}
use Rattle.brake.specs.Rule.{scaled_at}
use Rattle.brake.proofs.scaled.Goals as goal

pub returns-then-j-vel : goal.returns-then-j-vel
unfolding scaled_at
returns-then-j-vel c = rw (lt-ltb _ _ c.if-j-vel.true)

pub returns-else-j-vel : goal.returns-else-j-vel
unfolding scaled_at of_bits
returns-else-j-vel c = rw (le-ltb _ _ c.if-j-vel.false)
