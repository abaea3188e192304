-- Which of two a test takes, as a law on Booleans: what a proof hands over is then the test itself.
use mathlib.Core.Path.{◌≡◌}
use mathlib.Core.Bool.{Bool, true, false, cond}

pub first : {A : Type 0} (t : Bool) (x y : A) → t ≡ true → x ≡ cond t x y
first t x y e = rw e

pub second : {A : Type 0} (t : Bool) (x y : A) → t ≡ false → y ≡ cond t x y
second t x y e = rw e
