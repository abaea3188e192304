-- `lictor::answer::put_sent` meets its contract: by the cases of the answer.
use mathlib.Core.Path.{refl}
use Rattle.lictor.specs.Answer.{sent_number, sent_marks}
use Rattle.lictor.proofs.answer.put_sent.Goals as goal

pub returns-in-Ok : goal.returns-in-Ok
unfolding sent_number sent_marks
returns-in-Ok c = rw c.in-Ok.is (record { number = refl; marks = refl })

pub returns-in-Err : goal.returns-in-Err
unfolding sent_number sent_marks
returns-in-Err c = rw c.in-Err.is (record { number = refl; marks = refl })
