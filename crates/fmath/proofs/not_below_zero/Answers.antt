-- `fmath::not_below_zero` meets its contract: its two tests are the definition's.
use lib.Ieee.{of_bits}
use Rattle.checked.specs.Finite.{not_below_zero}
use Rattle.fmath.proofs.not_below_zero.Goals as goal

pub returns : goal.returns
unfolding not_below_zero of_bits
returns c = rw c.finite.ensures
