-- `conformal::answer` meets its contract: by the test on the number.
use borrow.Author.Tests.{eq-eqb, ne_eqb}
use Rattle.conformal.proofs.answer.Goals as goal

pub returns-then-number-eq0 : goal.returns-then-number-eq0
returns-then-number-eq0 c = rw (c.of-refusal.ensures, eq-eqb _ _ c.if-number-eq0.true)

pub returns-else-number-eq0 : goal.returns-else-number-eq0
returns-else-number-eq0 c = rw (c.of-refusal.ensures, ne_eqb _ _ c.if-number-eq0.false)
