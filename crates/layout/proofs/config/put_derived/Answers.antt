-- `layout::config::put_derived` meets its contract: by evaluation.
use mathlib.Core.Path.{refl}
use Rattle.checked.specs.Each.{table}
use Rattle.layout.specs.Config.{derived_flat}
use Rattle.layout.proofs.config.put_derived.Goals as goal

pub returns : goal.returns
unfolding derived_flat table
returns c = refl
