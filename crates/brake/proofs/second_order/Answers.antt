-- `brake::second_order` meets its contract: the run is the forecast's, and so is the stop distance where the run is sound; where only the setpoint is not, no stop distance is
-- sound.
use Rattle.checked.specs.declared.Reckoned.{Reckoned}
use mathlib.Core.Path.{◌≡◌, sym, ap, ◌∙◌}
use mathlib.Core.Bool.{Bool, true, false, ◌&&◌}
use lib.Ieee.{binary64}
use Rattle.course.specs.declared.Run.{Run}
use Rattle.course.specs.Plant.{State}
use Rattle.course.specs.Forecast.{fine}
use Rattle.checked.specs.Each.{all}
use Rattle.checked.proofs.Each.{and_left, and_right}
use Rattle.rollout.specs.Rule.{Task, total, setpoint, after, stop_distance, stop, forecast}
use Rattle.course.specs.Of.{state_of}
use Rattle.rollout.specs.Of.{task_of, rolled_of}
use Rattle.checked.specs.Of.{reckoned_from}
use Rattle.course.proofs.Leading.{leading_whole}
use Rattle.brake.specs.Of.{Settles}
use Rattle.brake.proofs.Outcome.{done_few}
use Rattle.brake.proofs.second_order.Goals as goal

-- what the run gives, at the forecast of a task
module _ (t : Task) (run : Run) (runs : run ≡ rolled_of binary64 t) where
  -- where the run is sound, so are all entries and the setpoint
  sound_parts : run.sound ≡ true → (all (fine (forecast binary64 t)) (forecast binary64 t).count ≡ true) × ((setpoint binary64 t).sound ≡ true)
  sound_parts h =
      let p = forecast binary64 t in
      let e = sym (ap (λ (x : Run). x.sound) runs) ∙ h in
      (and_left (all (fine p) p.count) (setpoint binary64 t).sound e, and_right (all (fine p) p.count) (setpoint binary64 t).sound e)

  -- and it ends where the forecast does
  stops : (d : Reckoned) → d ≡ reckoned_from (stop_distance binary64 t.start (state_of run.plant) t.n) → run.sound ≡ true → d ≡ reckoned_from (forecast binary64 t).stop
  unfolding stop
  stops d told h =
      let p = forecast binary64 t in
      let parts = sound_parts h in
      let end : state_of run.plant ≡ after binary64 t p.count = ap (λ (x : Run). state_of x.plant) runs ∙ ap (after binary64 t) (leading_whole (fine p) p.count parts.0) in
      told
      ∙ ap (λ (x : State). reckoned_from (stop_distance binary64 t.start x t.n)) end
      ∙ ap (λ (b : Bool). record { value = p.stop.value; sound = b && (stop_distance binary64 t.start (after binary64 t p.count) t.n).sound }) (sym parts.1)

  -- where it is not although they are finite, the setpoint is not
  unsound : run.sound ≡ false → all (fine (forecast binary64 t)) (forecast binary64 t).count ≡ true → (forecast binary64 t).stop.sound ≡ false
  unfolding stop
  unsound h w =
      let e = sym (ap (λ (x : Run). x.sound) runs) ∙ h in
      let made : (setpoint binary64 t).sound ≡ false = sym (ap (λ (b : Bool). b && (setpoint binary64 t).sound) w) ∙ e in
      ap (λ (b : Bool). b && (stop_distance binary64 t.start (after binary64 t (total t)) t.n).sound) made

pub settled-requires : goal.settled-requires
settled-requires c =
    let s = c.args in
    let runs = rw c.requires.0 at c.rollout-run.ensures.value in
    done_few (forecast binary64 (task_of s.g s.w s.c s.start s.rows.now)) (ap (λ (x : Run). x.done) runs) c.requires.1

pub returns : goal.returns
returns c =
    let s = c.args in
    let run = c.rollout-run.result in
    let t = task_of s.g s.w s.c s.start s.rows.now in
    let runs : run ≡ rolled_of binary64 t = rw c.requires.0 at c.rollout-run.ensures.value in
    let settles : Settles (forecast binary64 t) run c.stop_distance-stop.result = record {
      written = ap (λ (x : Run). x.done) runs;
      least = ap (λ (x : Run). x.margin) runs;
      whole = λ h. (sound_parts t run runs h).0;
      stops = stops t run runs c.stop_distance-stop.result c.stop_distance-stop.ensures;
      unsound = unsound t run runs;
    } in
    (c.settled.ensures (forecast binary64 t) settles, rw c.requires.0 at c.rollout-run.ensures.slack_after)
