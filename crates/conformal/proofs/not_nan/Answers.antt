-- `conformal::not_nan` meets its contract: a float equals itself exactly where it is no NaN.
use Prim.Native.Nat.{◌*◌}
use mathlib.Core.Bool.{true, false, not}
use mathlib.Core.Path.{◌≡◌, refl}
use borrow.Author.Tests.{eq-eqb}
use lib.Ieee.{Float, nan, inf, fin, eq, is_nan, up, down}
use Rattle.conformal.proofs.not_nan.Goals as goal

number : (x : Float) → eq x x ≡ not (is_nan x)
unfolding eq is_nan
number nan = refl
number (inf true) = refl
number (inf false) = refl
number (fin true m e) = rw (eq-eqb (m * up e * down e) (m * up e * down e) refl)
number (fin false m e) = rw (eq-eqb (m * up e * down e) (m * up e * down e) refl)

pub returns : goal.returns
returns c = number c.args.x
