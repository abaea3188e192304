-- `tier1::refusals::state_refusal` meets its contract: the earliest number of the trail, the chunk before and the held features.
use mathlib.Core.Bool.{not}
use mathlib.Core.Path.{refl, ap, ◌∙◌}
use Rattle.refusal.specs.Order.{judged_by}
use Rattle.refusal.specs.Chain.{number_is, when_number, later_number}
use Rattle.tier1.proofs.Ready.{state_is}
use Rattle.tier1.proofs.refusals.state_refusal.Goals as goal

pub returns : goal.returns
returns c =
    c.earlier.ensures
    ∙ ap judged_by (state_is c.args.rt c.unfit.ensures (when_number 12 c.unfit.result c.when-of_samples.ensures) c.out_of_size.ensures (later_number 1 c.out_of_size.result c.when-of_samples.result c.or_later-of_trail.ensures c.when.ensures)
    (number_is c.held_refusal-of_prev.ensures) c.all_finite.ensures (when_number 12 (not c.all_finite.result) c.when-of_held.ensures) (number_is c.earlier-later.ensures) refl)
