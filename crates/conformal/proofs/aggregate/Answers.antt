-- `conformal::aggregate` meets its contract: its calls are the parts of the rule.
use mathlib.Core.Path.{◌∙◌}
use Rattle.refusal.specs.Chain.{number_is}
use Rattle.conformal.specs.Answer.{aggregated}
use Rattle.conformal.proofs.aggregate.Goals as goal

pub returns : goal.returns
unfolding aggregated
returns c = c.answer.ensures ∙ rw (c.number_of.ensures ∙ number_is c.judge-judged.ensures, c.greatest-s.ensures, c.fired_bits-fired.ensures)
