-- `lictor::braking::lictor_run_towards` meets its contract: it hands on the answer of its entry, where the counts fit.
use mathlib.Core.Bool.{not}
use mathlib.Core.Path.{ap}
use borrow.Author.Tests.{not-true, not-false}
use Rattle.conformal.specs.Of.{tables}
use Rattle.lictor.proofs.Alike.{ran_misfit, ran_fits, run_alike}
use Rattle.lictor.proofs.braking.lictor_run_towards.Goals as goal

pub returns-then-not-fits : goal.returns-then-not-fits
returns-then-not-fits c = ran_misfit (not-true _ (ap not c.if-not-fits.true)) c.counts_fit-fits.ensures

pub returns : goal.returns
returns c =
    let s = c.args in
    ran_fits (not-false _ (ap not c.if-not-fits.false)) c.counts_fit-fits.ensures
    (run_alike (tables s.center.now s.scale.now) s.setpoint.now s.pos.now s.vel.now s.n s.slack.now c.run_towards-run.ensures c.config_of-c.ensures)
    c.put_ran.ensures
