-- `layout::config::fields_fit` meets its contract: by evaluation.
use mathlib.Core.Path.{refl}
use Rattle.checked.specs.Each.{every, every_from}
use Rattle.layout.specs.Config.{fields_fit}
use Rattle.layout.proofs.config.fields_fit.Goals as goal

pub returns : goal.returns
unfolding fields_fit every every_from
returns c = refl
