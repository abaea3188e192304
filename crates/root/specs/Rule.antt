-- What the root has to meet, over the width: the inequality of R1.5 with its only R, and the sentence that IEEE 754 makes of it (R1.6). Definitions only.
use Rattle.std.specs.Prelude.{◌≡◌, ℕ, ◌+◌, ◌-◌, ◌*◌, ◌^◌, ◌<◌, ◌≤◌, Bool, true, false, not, T, ℤ, pos, ◌*ℤ◌, Float}
use Rattle.std.specs.Float.{nan, inf, fin, Format}
use Rattle.std.specs.Float.Ieee.{prec, up, down, fits, lt}
use Rattle.std.specs.Float.Ieee.Positive.{num, den, positive}
use Rattle.root.specs.Root.{number}

-- r is within a half of the root of x: with both sides doubled and squared
abbrev pub Near : ℕ → ℕ → Type 0
Near r x = ((2 * r - 1) * (2 * r - 1) < 4 * x) × (4 * x < (2 * r + 1) * (2 * r + 1))

-- y is the root of x, a number above zero of the format f, as R1.5 works it out
pub record RoundedRoot (f : Format) (x y : Float) : Type 0 where
  -- x is whole * 4 ^ exponent, with 2 * prec - 1 or 2 * prec binary digits in `whole`
  pub whole : ℕ
  pub exponent : ℤ
  pub scale : num x * down (pos 2 *ℤ exponent) ≡ whole * up (pos 2 *ℤ exponent) * den x
  pub at_least : 2 ^ (2 * prec f - 2) ≤ whole
  pub below : whole < 2 ^ (2 * prec f)
  -- the root's digits: prec of them
  pub root : ℕ
  pub root_at_least : 2 ^ (prec f - 1) ≤ root
  pub root_below : root < 2 ^ prec f
  -- they are nearest to the root of `whole`, and nothing else is
  pub nearest : Near root whole
  pub only : (r : ℕ) → Near r whole → r ≡ root
  -- y is root * 2 ^ exponent
  pub is : y ≡ number (prec f) root exponent

-- the sum of y and z, over the product of their denominators
abbrev pub sum_over : Float → Float → ℕ
sum_over y z = num y * den z + num z * den y

-- the square of half of y + z lies below x; and above it
abbrev pub MidBelow : Float → Float → Float → Type 0
MidBelow y z x = sum_over y z * sum_over y z * den x < 4 * num x * (den y * den z * (den y * den z))

abbrev pub MidAbove : Float → Float → Float → Type 0
MidAbove y z x = 4 * num x * (den y * den z * (den y * den z)) < sum_over y z * sum_over y z * den x

-- zero, or a finite number above it
abbrev pub not_negative : Float → Bool
not_negative nan = false
not_negative (inf s) = false
not_negative (fin s m e) = not s

-- y is a number of the format, and no other that is not negative is as near to the exact root of x: the root lies on y's side of the middle between
-- them. (A negative one is farther from the root than zero is.)
pub record NearestRoot (f : Format) (x y : Float) : Type 0 where
  pub held : T (fits f y)
  pub above : T (positive y)
  pub under : (z : Float) → T (fits f z) → T (not_negative z) → lt z y ≡ true → MidBelow y z x
  pub over : (z : Float) → T (fits f z) → T (not_negative z) → lt y z ≡ true → MidAbove y z x
