-- `card::desk::norm` meets its contract: the numbers as they stand.
use mathlib.Core.Path.{refl}
use Rattle.card.specs.Desk.{norm_of}
use lib.Ieee.{of_bits}
use Rattle.card.proofs.desk.norm.Goals as goal

pub returns : goal.returns
unfolding norm_of of_bits
returns c = refl
