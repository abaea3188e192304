-- `tier1::refusals::new_refusal` meets its contract: nothing is judged of no chunk, and of one its sizes and its width.
use mathlib.Core.Bool.{not}
use mathlib.Core.Path.{refl, ap, ◌∙◌}
use lib.Dec.{eqb}
use Rattle.refusal.specs.Order.{judged_by}
use Rattle.refusal.specs.Chain.{number_is, when_number}
use borrow.Author.Tests.{not-true, not-false}
use Rattle.tier1.proofs.Ready.{none_new, new_is}
use Rattle.tier1.proofs.refusals.new_refusal.Goals as goal

pub returns-then-not-there : goal.returns-then-not-there
returns-then-not-there c = let g = c.args in ap judged_by (none_new g.there g.k g.len g.dim (not-true _ (ap not c.if-not-there.true)))

pub returns : goal.returns
returns c = let g = c.args in c.earlier.ensures ∙ ap judged_by (new_is g.there g.k g.len g.dim (not-false _ (ap not c.if-not-there.false)) (number_is c.chunk_refusal-sizes.ensures) (when_number 10 (not (eqb g.k.dim g.dim)) c.when-width.ensures) refl)
