-- `brake::closed` meets its contract: the run is the forecast's, and so is the stop distance where the run is sound.
use mathlib.Core.Path.{◌≡◌, sym, ap, ◌∙◌}
use mathlib.Core.Bool.{false≢true}
use lib.Ieee.{binary64}
use Rattle.course.specs.declared.Run.{Run}
use Rattle.course.specs.Plant.{State}
use Rattle.course.specs.Forecast.{fine}
use Rattle.course.specs.Of.{state_of, run_of}
use Rattle.checked.specs.Of.{reckoned_from}
use Rattle.stopping.specs.Rule.{reaction, stand, stop_distance, forecast}
use Rattle.stopping.specs.Of.{task_of}
use Rattle.course.proofs.Leading.{leading_whole}
use Rattle.brake.specs.Of.{Settles}
use Rattle.brake.proofs.Outcome.{done_few}
use Rattle.brake.proofs.closed.Goals as goal

pub settled-requires : goal.settled-requires
settled-requires c =
    let s = c.args in
    let runs = rw c.requires.0 at c.closed_form-run.ensures.value in
    done_few (forecast binary64 (task_of s.arm s.react_ticks s.w s.c s.start s.rows.now)) (ap (λ (x : Run). x.done) runs) c.requires.1

pub returns : goal.returns
unfolding stand reaction
returns c =
    let s = c.args in
    let t = task_of s.arm s.react_ticks s.w s.c s.start s.rows.now in
    let p = forecast binary64 t in
    let run = c.closed_form-run.result in
    let q : run ≡ run_of p (stand binary64 t) = rw c.requires.0 at c.closed_form-run.ensures.value in
    let settles : Settles p run c.stop_distance-stop.result = record {
      written = ap (λ (x : Run). x.done) q;
      least = ap (λ (x : Run). x.margin) q;
      whole = λ h. sym (ap (λ (x : Run). x.sound) q) ∙ h;
      -- where the run is sound it ends where the forecast does
      stops = λ h.
          let sound = sym (ap (λ (x : Run). x.sound) q) ∙ h in
          let end : state_of run.plant ≡ stand binary64 t p.count = ap (λ (x : Run). state_of x.plant) q ∙ ap (stand binary64 t) (leading_whole (fine p) p.count sound) in
          c.stop_distance-stop.ensures ∙ ap (λ (x : State). reckoned_from (stop_distance binary64 t.arm (reaction binary64 t).value t.start x t.n)) end;
      unsound = λ h w. absurd (false≢true (sym h ∙ ap (λ (x : Run). x.sound) q ∙ w));
    } in
    (c.settled.ensures p settles, rw c.requires.0 at c.closed_form-run.ensures.slack_after)
