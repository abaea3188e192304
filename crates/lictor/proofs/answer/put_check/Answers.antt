-- `lictor::answer::put_check` meets its contract: by the cases of the answer.
use mathlib.Core.Path.{refl}
use Rattle.lictor.specs.Answer.{check_number, check_marks, check_speed}
use Rattle.lictor.proofs.answer.put_check.Goals as goal

pub returns-in-Ok : goal.returns-in-Ok
unfolding check_number check_marks check_speed
returns-in-Ok c = rw c.in-Ok.is (record { number = refl; marks = refl; speed = refl })

pub returns-in-Err : goal.returns-in-Err
unfolding check_number check_marks check_speed
returns-in-Err c = rw c.in-Err.is (record { number = refl; marks = refl; speed = refl })
