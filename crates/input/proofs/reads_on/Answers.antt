-- `input::reads_on` meets its contract: the two tests.
use mathlib.Core.Path.{refl}
use Rattle.input.specs.Reads.{reads_on}
use Rattle.input.proofs.reads_on.Goals as goal

pub returns : goal.returns
unfolding reads_on
returns c = refl
