-- `layout::config::zone_held` meets its contract: by evaluation.
use mathlib.Core.Path.{refl}
use Rattle.layout.specs.Config.{zone_held}
use Rattle.layout.proofs.config.zone_held.Goals as goal

pub returns : goal.returns
unfolding zone_held
returns c = refl
