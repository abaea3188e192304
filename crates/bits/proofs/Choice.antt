-- The first where the test holds, else the second.
use mathlib.Core.Path.{refl}
use Rattle.bits.specs.Choice.{Choice}

pub choice : {A : Type 0} (x y : A) → Choice x y
choice x y = record { where_true = refl; where_false = refl }
