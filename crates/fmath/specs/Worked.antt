-- Worked clamps, by computation.
use Rattle.std.specs.Prelude.{◌≡◌, refl, true, false, pos, negsuc, Float}
use Rattle.std.specs.Float.{nan, fin}
use Rattle.std.specs.Float.Ieee.{lt}
use Rattle.checked.specs.Constants.{2! }
use Rattle.fmath.specs.Clamp.{clamped, side, sided}

-- -1, the two zeros and 3
abbrev -1! : Float
-1! = fin true 1 (pos 0)

abbrev 0! : Float
0! = fin false 0 (pos 0)

abbrev -0! : Float
-0! = fin true 0 (pos 0)

abbrev 3! : Float
3! = fin false 3 (pos 0)

-- between 0 and 2: -1 is raised, 3 is lowered, and each limit itself is untouched
below_low : sided -1! 0! 2! ≡ record { value = 0!; side = negsuc 0 }
unfolding clamped side lt
below_low = refl

above_high : sided 3! 0! 2! ≡ record { value = 2!; side = pos 1 }
unfolding clamped side lt
above_high = refl

on_low : sided 0! 0! 2! ≡ record { value = 0!; side = pos 0 }
unfolding clamped side lt
on_low = refl

on_high : sided 2! 0! 2! ≡ record { value = 2!; side = pos 0 }
unfolding clamped side lt
on_high = refl

-- the other zero on that limit stays as it is, too
other_zero : sided -0! 0! 2! ≡ record { value = -0!; side = pos 0 }
unfolding clamped side lt
other_zero = refl

not_a_number : sided nan 0! 2! ≡ record { value = nan; side = pos 0 }
unfolding clamped side lt
not_a_number = refl

-- limits the wrong way round: 0 is below 3 and above -1, and the low one is tried first
low_first : sided 0! 3! -1! ≡ record { value = 3!; side = negsuc 0 }
unfolding clamped side lt
low_first = refl
