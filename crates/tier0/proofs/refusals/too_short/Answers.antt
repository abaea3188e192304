-- `tier0::refusals::too_short` meets its contract as written.
use mathlib.Core.Path.{refl}
use Rattle.tier0.specs.Refusals.{too_short}
use Rattle.tier0.proofs.refusals.too_short.Goals as goal

pub returns : goal.returns
unfolding too_short
returns c = refl
