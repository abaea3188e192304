-- `layout::config::codes_fit` meets its contract: by evaluation.
use mathlib.Core.Path.{refl}
use Rattle.checked.specs.Each.{every, every_from}
use Rattle.layout.specs.Config.{codes_fit}
use Rattle.layout.proofs.config.codes_fit.Goals as goal

pub returns : goal.returns
unfolding codes_fit every every_from
returns c = refl
