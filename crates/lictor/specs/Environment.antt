-- Whether a processor computes as the format says: three answers that another rounding, or taking small numbers for 0, would change.
use Rattle.std.specs.Prelude.{ℕ, ◌≡◌, refl, false, ◌&&◌, pos, negsuc, Float}
use Rattle.std.specs.Float.{Format, binary64, fin}
use Rattle.std.specs.Float.Ieee.{add, sub, div, eq, lt}
use Rattle.checked.specs.Constants.{1!, 2! }
use Rattle.checked.specs.Finite.{+0}
use Rattle.window.specs.Rule.{flag}

-- 1 plus half a step above it is a tie, which goes to the even 1 (not so when rounding up, or ties away); 1 less half a step below it
-- is one, too (not so when rounding down or towards zero); and half of the least normal number is above 0
unfoldable pub environment : Format → Float → Float → ℕ
environment f one least =
    flag (eq (add f one (div f one (fin false 1 (pos 53)))) one && eq (sub f one (div f one (fin false 1 (pos 54)))) one && lt +0 (div f least 2!))

-- the language computes so: of 1 and 2^-1022 the answer is 1
pub environment_kept : environment binary64 1! (fin false 1 (negsuc 1021)) ≡ 1
unfolding environment add sub div eq lt
environment_kept = refl
