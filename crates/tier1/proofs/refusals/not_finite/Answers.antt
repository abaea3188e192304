-- `tier1::refusals::not_finite` meets its contract: four judgements.
use Rattle.tier1.proofs.Ready.{lent_is}
use Rattle.tier1.proofs.refusals.not_finite.Goals as goal

pub returns : goal.returns
returns c = let g = c.args in lent_is g.pos.now g.ext.now g.there g.rows.now g.sc c.all_finite-k.ensures c.all_finite-l.ensures c.all_finite-m.ensures c.scores_ok-n.ensures
