-- `lictor::answer::put_cleared` meets its contract: by the test on the number.
use borrow.Author.Tests.{eq-eqb, ne_eqb}
use Rattle.lictor.proofs.answer.put_cleared.Goals as goal

pub returns-then-number-eq0 : goal.returns-then-number-eq0
returns-then-number-eq0 c = let e = c.fitting-number.ensures in let z = eq-eqb _ _ c.if-number-eq0.true in record { number = e; rows = rw (← e, z); header = rw (← e, z) c.let_go.ensures; trail = rw (← e, z) c.put_trail.ensures.0; samples = rw (← e, z) c.put_trail.ensures.1; held = rw (← e, z) c.put_held.ensures.0; kept = rw (← e, z) c.put_held.ensures.1 }

pub returns-else-number-eq0 : goal.returns-else-number-eq0
returns-else-number-eq0 c = let e = c.fitting-number.ensures in let z = ne_eqb _ _ c.if-number-eq0.false in record { number = e; rows = rw (← e, z); header = rw (← e, z); trail = rw (← e, z); samples = rw (← e, z); held = rw (← e, z); kept = rw (← e, z) }
