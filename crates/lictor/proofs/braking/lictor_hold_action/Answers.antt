-- `lictor::braking::lictor_hold_action` meets its contract: it hands on the answer of its entry, where the counts fit.
use mathlib.Core.Bool.{not}
use mathlib.Core.Path.{ap}
use borrow.Author.Tests.{not-true, not-false}
use Rattle.conformal.specs.Of.{tables}
use Rattle.lictor.proofs.Alike.{sent_misfit, sent_fits, hold_alike}
use Rattle.lictor.proofs.braking.lictor_hold_action.Goals as goal

pub returns-then-not-fits : goal.returns-then-not-fits
returns-then-not-fits c = sent_misfit (not-true _ (ap not c.if-not-fits.true)) c.counts_fit-fits.ensures

pub returns : goal.returns
returns c =
    let s = c.args in
    sent_fits (not-false _ (ap not c.if-not-fits.false)) c.counts_fit-fits.ensures
    (hold_alike (tables s.center.now s.scale.now) s.pos.now s.last.now s.out.now c.hold_action-held.ensures c.config_of-arm.ensures)
    c.put_sent.ensures
