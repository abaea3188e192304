-- `layout::config::counts_fit` meets its contract: each part is what its own function gives.
use Rattle.checked.specs.Each.{every, every_from}
use Rattle.layout.specs.Config.{counts_fit}
use Rattle.layout.proofs.config.counts_fit.Goals as goal

pub returns : goal.returns
unfolding counts_fit every every_from
returns c = rw (c.zones_held-zones.ensures, c.fields_fit-fields.ensures, c.choices_fit-choices.ensures, c.codes_fit-codes.ensures)
