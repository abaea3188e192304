-- `fmath::finite` meets its contract: a number is finite exactly where it lies strictly between the two infinities.
use mathlib.Core.Path.{◌≡◌, refl}
use mathlib.Core.Bool.{true, false, ◌&&◌}
use lib.Ieee.{Float, nan, inf, fin, lt, neg, div, of_bits}
use Rattle.checked.specs.Finite.{finite}
use Rattle.fmath.proofs.finite.Goals as goal

between : (x : Float) → lt x (inf false) && lt (inf true) x ≡ finite x
unfolding lt finite
between nan = refl
between (inf true) = refl
between (inf false) = refl
between (fin s m e) = refl

pub returns : goal.returns
unfolding of_bits div neg
returns c = between c.args.x
