-- `conformal::standard` meets its contract: by the test that led to each answer.
use lib.Ieee.{of_bits}
use Rattle.conformal.specs.Rule.{standard}
use Rattle.conformal.proofs.standard.Goals as goal

pub returns-then-live : goal.returns-then-live
unfolding standard
returns-then-live c = rw (c.if-live.true, c.finite-a.ensures, c.finite-b.ensures)

pub returns-else-live : goal.returns-else-live
unfolding standard of_bits
returns-else-live c = rw c.if-live.false
