-- `fmath::above_zero` meets its contract: its two tests are the definition's.
use lib.Ieee.{of_bits}
use Rattle.checked.specs.Finite.{above_zero}
use Rattle.fmath.proofs.above_zero.Goals as goal

pub returns : goal.returns
unfolding above_zero of_bits
returns c = rw c.finite.ensures
