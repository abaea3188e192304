-- `lictor::lictor_environment` meets its contract: by evaluation.
use mathlib.Core.Path.{refl}
use lib.Ieee.{of_bits}
use Rattle.lictor.specs.Environment.{environment}
use Rattle.lictor.proofs.lictor_environment.Goals as goal

pub returns : goal.returns
unfolding environment of_bits
returns c = refl
