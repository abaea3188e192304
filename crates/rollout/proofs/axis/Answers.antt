-- `rollout::axis` meets its contract: its operations are the rule's, in the rule's order.
use mathlib.Core.Path.{refl}
use Rattle.rollout.specs.Plant.{axis}
use Rattle.rollout.proofs.axis.Goals as goal

pub returns : goal.returns
unfolding axis
returns c = refl
