-- `conformal::standardise` meets its contract: its calls are the parts of the rule.
use mathlib.Core.Path.{◌∙◌}
use Rattle.refusal.specs.Chain.{number_is}
use Rattle.conformal.specs.Answer.{standardised}
use Rattle.conformal.proofs.standardise.Goals as goal

pub returns : goal.returns
unfolding standardised
returns c = c.answer.ensures ∙ rw (c.number_of.ensures ∙ number_is c.judge-judged.ensures, c.standards-new.ensures)
