-- Constants of the source as floats. 1e-9 is the nearest binary64.
use Rattle.std.specs.Prelude.{◌≡◌, refl, false, pos, negsuc, Float}
use Rattle.std.specs.Float.{binary64, fin}
use Rattle.std.specs.Float.Ieee.{of_bits}

abbrev pub 1! : Float
1! = fin false 1 (pos 0)

abbrev pub 2! : Float
2! = fin false 1 (pos 1)

abbrev pub 3! : Float
3! = fin false 3 (pos 0)

abbrev pub eps : Float
eps = fin false 0x112e0be826d695 (negsuc 81)

eps_bits : of_bits binary64 0x3e11_2e0b_e826_d695 ≡ eps
unfolding of_bits
eps_bits = refl
