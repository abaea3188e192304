-- `lictor::answer::put_recorded` meets its contract: by the test on the number.
use mathlib.Core.Path.{refl}
use borrow.Author.Tests.{eq-eqb, ne_eqb}
use Rattle.lictor.proofs.answer.put_recorded.Goals as goal

pub returns-then-refused-eq0 : goal.returns-then-refused-eq0
returns-then-refused-eq0 c = let z = eq-eqb _ _ c.if-refused-eq0.true in record { number = refl; numbers = rw z c.put_trail.ensures.0; marks = rw z c.put_trail.ensures.1 }

pub returns-else-refused-eq0 : goal.returns-else-refused-eq0
returns-else-refused-eq0 c = let z = ne_eqb _ _ c.if-refused-eq0.false in record { number = refl; numbers = rw z; marks = rw z }
