-- `lictor::scoring::lictor_features` meets its contract: a refusal leaves every place, and a tick that passes puts its entry's answer there.
use lib.Ieee.{binary64}
use Rattle.conformal.specs.Of.{tables}
use Rattle.lictor.proofs.Alike.{featured_alike}
use Rattle.lictor.proofs.Ticked.{state_rows, refused_places, passed_places}
use Rattle.lictor.proofs.scoring.lictor_features.Goals as goal

pub returns-then-number-ne0 : goal.returns-then-number-ne0
returns-then-number-ne0 c =
    let s = c.args in
    featured_alike (tables s.center.now s.scale.now) s.pos.now s.ext.now _ _ s.rows.now c.counts_fit-config_fits.ensures c.state_fits-state_fits.ensures c.marks_fit-scores_fit.ensures c.config_of-c.ensures c.state_of-rt.ensures c.scores_of-sc.ensures
    (refused_places binary64 c.config_of-c.result (tables s.center.now s.scale.now) s.pos.now s.ext.now _ s.rows.now c.state_of-rt.result c.scores_of-sc.result _ c.one_tick-a.ensures c.fitting-number.ensures c.if-number-ne0.true)

pub returns : goal.returns
returns c =
    let s = c.args in
    featured_alike (tables s.center.now s.scale.now) s.pos.now s.ext.now _ _ s.rows.now c.counts_fit-config_fits.ensures c.state_fits-state_fits.ensures c.marks_fit-scores_fit.ensures c.config_of-c.ensures c.state_of-rt.ensures c.scores_of-sc.ensures
    (passed_places binary64 c.config_of-c.result (tables s.center.now s.scale.now) s.pos.now s.ext.now _ s.rows.now c.state_of-rt.result c.scores_of-sc.result _ c.one_tick-a.ensures c.fitting-number.ensures c.if-number-ne0.false (state_rows _ _ _ _ _ _ c.state_of-rt.ensures) c.put_lent.ensures c.put_held.ensures c.put_scores.ensures)
