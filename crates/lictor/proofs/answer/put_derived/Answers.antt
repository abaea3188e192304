-- `lictor::answer::put_derived` meets its contract: by the test on the number.
use mathlib.Core.Path.{refl}
use borrow.Author.Tests.{eq-eqb, ne_eqb}
use Rattle.lictor.proofs.answer.put_derived.Goals as goal

pub returns-then-number-eq0 : goal.returns-then-number-eq0
returns-then-number-eq0 c = record { number = refl; numbers = rw (eq-eqb _ _ c.if-number-eq0.true) c.put_derived.ensures }

pub returns-else-number-eq0 : goal.returns-else-number-eq0
returns-else-number-eq0 c = record { number = refl; numbers = rw (ne_eqb _ _ c.if-number-eq0.false) }
