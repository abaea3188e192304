-- `lictor::answer::put_ran` meets its contract: by the cases of the answer.
use mathlib.Core.Path.{refl}
use Rattle.lictor.specs.Answer.{ran_number, ran_count, ran_margin, ran_place}
use Rattle.lictor.proofs.answer.put_ran.Goals as goal

pub returns-in-Ok : goal.returns-in-Ok
unfolding ran_number ran_count ran_margin ran_place
returns-in-Ok c = rw c.in-Ok.is (record { number = refl; count = refl; margin = refl; place = refl })

pub returns-in-Err : goal.returns-in-Err
unfolding ran_number ran_count ran_margin ran_place
returns-in-Err c = rw c.in-Err.is (record { number = refl; count = refl; margin = refl; place = refl })
