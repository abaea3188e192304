-- `card::desk::limits` meets its contract: the numbers as they stand.
use mathlib.Core.Path.{refl}
use Rattle.card.specs.Desk.{limits_of}
use lib.Ieee.{of_bits}
use Rattle.card.proofs.desk.limits.Goals as goal

pub returns : goal.returns
unfolding limits_of of_bits
returns c = refl
