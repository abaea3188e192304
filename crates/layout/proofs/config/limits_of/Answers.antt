-- `layout::config::limits_of` meets its contract: by evaluation.
use mathlib.Core.Path.{refl}
use Rattle.layout.specs.Config.{limits_of}
use Rattle.layout.proofs.config.limits_of.Goals as goal

pub returns : goal.returns
unfolding limits_of
returns c = refl
