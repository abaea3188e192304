-- `tier0::refusals::action_refusal` meets its contract: what is judged of the configuration, then what is lent.
use mathlib.Core.List.{[]}
use Rattle.refusal.specs.Chain.{joined}
use Rattle.envelope.specs.Refusals.{config_judged}
use Rattle.tier0.specs.Of.{lent_to_action}
use lib.Ieee.{binary64}
use Rattle.tier0.proofs.refusals.action_refusal.Goals as goal

pub returns : goal.returns
returns c t e =
    let g = c.args in
    joined (config_judged binary64 g.c t) (lent_to_action g.c g.pos.now g.aux.now g.prev.now g.a.now g.room []) e c.lent_refusal.ensures c.or_later.ensures
