-- `Tier1Rt::reset` meets its contract: a damaged state stays, another is cleared.
use lib.Ieee.{of_bits}
use mathlib.Core.Path.{◌∙◌}
use Rattle.refusal.specs.Chain.{number_is}
use Rattle.tier1.proofs.Ticks.{cleared_refused, cleared_passed}
use Rattle.tier1.proofs.Tier1Rt.reset.Goals as goal

pub returns-then-number-ne0 : goal.returns-then-number-ne0
returns-then-number-ne0 c = cleared_refused c.args.self (c.number_of-number.ensures ∙ number_is c.state_refusal.ensures) c.of-refusal.ensures c.if-number-ne0.true

pub returns : goal.returns
unfolding of_bits
returns c = rw c.emptied-prev.ensures (cleared_passed c.args.self (c.number_of-number.ensures ∙ number_is c.state_refusal.ensures) c.of-refusal.ensures c.if-number-ne0.false)
