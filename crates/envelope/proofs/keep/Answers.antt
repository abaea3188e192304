-- `envelope::keep` meets its contract: by the test that led to each answer.
use lib.Ieee.{of_bits}
use Rattle.envelope.proofs.keep.Goals as goal

pub returns-else-t : goal.returns-else-t
unfolding of_bits
returns-else-t c = rw c.if-t.false
