-- `workspace::least_of` meets its contract: the loop keeps the least so far.
use mathlib.Core.Path.{◌≡◌}
use Rattle.checked.specs.Each.{at}
use Rattle.checked.specs.Least.{least}
use Rattle.workspace.proofs.least_of.Given as goal

abbrev pub invariant-loop-j : goal.invariant-loop-j
invariant-loop-j l = l.least ≡ least (at l.near) l.j
