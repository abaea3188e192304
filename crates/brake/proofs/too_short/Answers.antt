-- `brake::too_short` meets its contract as written.
use mathlib.Core.Path.{refl}
use Rattle.brake.specs.Answer.{too_short}
use Rattle.brake.proofs.too_short.Goals as goal

pub returns : goal.returns
unfolding too_short
returns c = refl
