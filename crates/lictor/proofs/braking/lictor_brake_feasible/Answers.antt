-- `lictor::braking::lictor_brake_feasible` meets its contract: it hands on the answer of its entry, where the counts fit.
use mathlib.Core.Bool.{not}
use mathlib.Core.Path.{ap}
use borrow.Author.Tests.{not-true, not-false}
use Rattle.conformal.specs.Of.{tables}
use Rattle.lictor.proofs.Alike.{forecast_misfit, forecast_fits, forecast_alike}
use Rattle.lictor.specs.Asked.{sizes_asked}
use Rattle.lictor.proofs.braking.lictor_brake_feasible.Goals as goal

pub returns-then-not-fits : goal.returns-then-not-fits
returns-then-not-fits c = forecast_misfit (not-true _ (ap not c.if-not-fits.true)) c.counts_fit-fits.ensures

pub returns : goal.returns
returns c =
    let s = c.args in
    forecast_fits (not-false _ (ap not c.if-not-fits.false)) c.counts_fit-fits.ensures
    (forecast_alike (tables s.center.now s.scale.now) s.pos.now s.vel.now s.rows.now (sizes_asked s.horizon s.dim s.exec_steps) s.from s.slack.now c.brake_feasible-a.ensures c.config_of-c.ensures)
    c.put_forecast.ensures
