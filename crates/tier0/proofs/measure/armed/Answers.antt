-- `tier0::measure::armed` meets its contract as written.
use mathlib.Core.Path.{refl}
use Rattle.tier0.specs.Rule.{arms}
use Rattle.tier0.proofs.measure.armed.Goals as goal

pub returns : goal.returns
unfolding arms
returns c = refl
