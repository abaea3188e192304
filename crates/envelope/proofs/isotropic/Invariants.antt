-- `envelope::isotropic` meets its contract: the loop keeps the least of the scales passed.
use mathlib.Core.Path.{◌≡◌}
use Rattle.checked.specs.Each.{at}
use Rattle.checked.specs.Least.{least}
use Rattle.envelope.proofs.isotropic.Given as goal

abbrev pub invariant-loop-x : goal.invariant-loop-x
invariant-loop-x l = l.least ≡ least (at l.scale) l.x-index
