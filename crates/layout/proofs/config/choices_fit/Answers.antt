-- `layout::config::choices_fit` meets its contract: by evaluation.
use mathlib.Core.Path.{refl}
use Rattle.checked.specs.Each.{every, every_from}
use Rattle.layout.specs.Config.{choices_fit}
use Rattle.layout.proofs.config.choices_fit.Goals as goal

pub returns : goal.returns
unfolding choices_fit every every_from
returns c = refl
