-- `card::desk::calibration` meets its contract: the numbers as they stand.
use mathlib.Core.Path.{refl}
use Rattle.card.specs.Desk.{calibration_of}
use lib.Ieee.{of_bits}
use Rattle.card.proofs.desk.calibration.Goals as goal

pub returns : goal.returns
unfolding calibration_of of_bits
returns c = refl
