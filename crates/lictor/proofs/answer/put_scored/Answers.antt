-- `lictor::answer::put_scored` meets its contract: by the test on the number.
use borrow.Author.Tests.{eq-eqb, ne_eqb}
use Rattle.lictor.proofs.answer.put_scored.Goals as goal

pub returns-then-number-eq0 : goal.returns-then-number-eq0
returns-then-number-eq0 c = let e = c.fitting-number.ensures in let z = eq-eqb _ _ c.if-number-eq0.true in record { number = e; scores = rw (← e, z) c.put_scores.ensures.0; marks = rw (← e, z) c.put_scores.ensures.1 }

pub returns-else-number-eq0 : goal.returns-else-number-eq0
returns-else-number-eq0 c = let e = c.fitting-number.ensures in let z = ne_eqb _ _ c.if-number-eq0.false in record { number = e; scores = rw (← e, z); marks = rw (← e, z) }
