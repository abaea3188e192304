-- `forecast::goes_on` meets its contract: the three tests.
use mathlib.Core.Path.{refl}
use Rattle.forecast.specs.Run.{goes_on}
use Rattle.forecast.proofs.goes_on.Goals as goal

pub returns : goal.returns
unfolding goes_on
returns c = refl
