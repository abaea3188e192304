-- `tier1::refusals::features_refusal` meets its contract: the earliest number of all arguments.
use lib.Ieee.{binary64}
use mathlib.Core.Path.{refl, ap, ◌∙◌}
use Rattle.refusal.specs.Order.{judged_by}
use Rattle.refusal.specs.Chain.{number_is, when_number}
use Rattle.tier1.proofs.Ready.{judged_is}
use Rattle.tier1.proofs.refusals.features_refusal.Goals as goal

pub returns : goal.returns
returns c t e = let g = c.args in c.earlier.ensures ∙ ap judged_by (judged_is binary64 g.c t g.pos.now g.ext.now g.there g.k g.rows.now g.rt g.sc (number_is e) (number_is c.new_refusal-new.ensures) (number_is c.state_refusal-state.ensures) c.not_finite-bad.ensures (when_number 12 c.not_finite-bad.result c.when-lent.ensures) (number_is c.earlier-later.ensures) (number_is c.earlier-from_new.ensures) refl)
