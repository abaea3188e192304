-- `lictor::answer::put_forecast` meets its contract: by the cases of the answer.
use mathlib.Core.Path.{refl}
use Rattle.lictor.specs.Answer.{forecast_number, forecast_marks, forecast_distances, forecast_place}
use Rattle.lictor.proofs.answer.put_forecast.Goals as goal

pub returns-in-Ok : goal.returns-in-Ok
unfolding forecast_number forecast_marks forecast_distances forecast_place
returns-in-Ok c = rw c.in-Ok.is (record { number = refl; marks = refl; distances = refl; place = refl })

pub returns-in-Err : goal.returns-in-Err
unfolding forecast_number forecast_marks forecast_distances forecast_place
returns-in-Err c = rw c.in-Err.is (record { number = refl; marks = refl; distances = refl; place = refl })
