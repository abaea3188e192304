-- `workspace::beside` meets its contract: its operations are the rule's.
use mathlib.Core.Path.{refl}
use Rattle.workspace.specs.Rule.{between}
use Rattle.workspace.proofs.beside.Goals as goal

pub returns : goal.returns
unfolding between
returns c = (c.min.ensures, refl)
