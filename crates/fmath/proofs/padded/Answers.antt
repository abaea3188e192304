-- `fmath::padded` meets its contract: what is put over eight zeros.
use lib.Ieee.{of_bits}
use Rattle.checked.specs.Row.{padded}
use Rattle.fmath.proofs.padded.Goals as goal

pub returns : goal.returns
unfolding padded of_bits
returns c = c.put.ensures
