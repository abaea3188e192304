-- `conformal::bit` meets its contract: a shift right is the division of its definition.
use mathlib.Core.Path.{refl}
use Rattle.bits.specs.Bits.{bit}
use Rattle.conformal.proofs.bit.Goals as goal

pub returns : goal.returns
unfolding bit
returns c = refl
