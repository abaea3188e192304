-- `forecast::run` meets its contract: the last block is the one after which the loop ends, and each block before it leaves fewer numbers.
use mathlib.Core.Path.{refl, sym, ◌∙◌}
use Rattle.forecast.proofs.Known.{first_step, next_step, ran, all}
use Rattle.forecast.proofs.Numbers.{fewer}
use Rattle.forecast.proofs.run.Goals as goal

pub turns-init : goal.turns-init
turns-init g c =
    let u = c.turn-t in
    let room = u.auto.input ∙ c.requires in
    record {
      room = room;
      same = refl;
      step = first_step _ _ _ _ u.new.input _ u.new.out u.result (record {
        size = room;
        turned = u.ensures.turned;
        fits = u.ensures.fills.fits;
        bytes = u.ensures.bytes;
        end = u.ensures.end;
        wrote = u.ensures.wrote;
      });
    }

pub turns-smaller : goal.turns-smaller
turns-smaller g c =
    let u = c.turn-t-in-turns in
    let i = c.turns.invariant in
    fewer c.turns.t u.result u.new.input _ _ (u.auto.input ∙ i.room) u.ensures.turned (rw i.room at (sym c.goes_on.ensures ∙ c.turns-test.true))

pub turns-preserved : goal.turns-preserved
turns-preserved g c =
    let u = c.turn-t-in-turns in
    let i = c.turns.invariant in
    let room = u.auto.input ∙ i.room in
    record {
      room = room;
      same = u.auto.out ∙ i.same;
      step = next_step _ _ _ _ _ _ u.new.input _ u.new.out c.turns.t u.result i.step (rw i.room at (sym c.goes_on.ensures ∙ c.turns-test.true)) (record {
        size = room;
        turned = u.ensures.turned;
        fits = u.ensures.fills.fits;
        bytes = u.ensures.bytes;
        end = u.ensures.end;
        wrote = u.ensures.wrote;
      });
    }

pub returns-clause-ran : goal.returns-clause-ran
returns-clause-ran g c = ran _ _ _ _ c.turns.t c.turns.invariant.step

pub returns-clause-all : goal.returns-clause-all
returns-clause-all g c = all _ _ _ _ c.turns.t c.turns.invariant.step (rw c.turns.invariant.room at (sym c.goes_on.ensures ∙ c.turns-test.false))
