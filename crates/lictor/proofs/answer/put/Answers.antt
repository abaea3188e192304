-- `lictor::answer::put` meets its contract: by the two cases of the answer.
use mathlib.Core.Path.{refl}
use Rattle.lictor.specs.Answer.{Given}
use Rattle.lictor.proofs.answer.put.Goals as goal

pub returns-in-Ok : goal.returns-in-Ok
unfolding Given
returns-in-Ok g c = rw c.in-Ok.is (refl, c.given.ensures)

pub returns : goal.returns
unfolding Given
returns g c = rw c.in-Err.is (refl, refl)
