-- The correctly rounded square root, over the width (R1.5): scale by an even power of two to a whole X of 2p - 1 or 2p binary
-- digits; the root is the whole number R nearest to the root of X, with half of the scaled exponent.
use Rattle.std.specs.Prelude.{ℕ, zero, suc, ◌+◌, ◌-◌, ◌*◌, ◌/◌, true, false, cond, ℤ, pos, negsuc, ◌+ℤ◌, ◌-ℤ◌, ◌*ℤ◌, nat_le, nat_lt, Float}
use Rattle.std.specs.Int.Signed.{shr_z}
use Rattle.std.specs.Float.{nan, inf, fin, Format}
use Rattle.std.specs.Float.Ieee.{prec, up, size, odd}

-- the largest r with r * r at most x, for an x below 4 ^ k: one binary digit of r for each pair of binary digits of x
unfoldable pub floor_root : ℕ → ℕ → ℕ
floor_root zero x = 0
floor_root (suc k) x = let r = 2 * floor_root k (x / 4) in cond (nat_le ((r + 1) * (r + 1)) x) (r + 1) r

-- the whole number nearest to the root of x: x is never (r + 1/2) ^ 2 = r * r + r + 1/4, so there is no tie
unfoldable pub near_root : ℕ → ℕ → ℕ
near_root k x = let r = floor_root k x in cond (nat_lt r (x - r * r)) (r + 1) r

-- half of a whole number, rounded down, also below zero
unfoldable pub half : ℤ → ℤ
half e = shr_z e 2

-- The exponent of the root of m * 2 ^ e to p digits, negative where it has to be: half of the even exponent that is left where m has been scaled to
-- 2p - 1 or 2p digits.
unfoldable pub root_exponent : ℕ → ℕ → ℤ → ℤ
root_exponent p m e = half (e +ℤ pos (size m + 1) -ℤ pos (2 * p))

-- X, the whole number that is left: m * 2 ^ e is X * 4 ^ rootExponent
unfoldable pub scaled : ℕ → ℕ → ℤ → ℕ
scaled p m e = m * up (e -ℤ pos 2 *ℤ root_exponent p m e)

-- the number r * 2 ^ h, r having at most p digits
unfoldable pub number : ℕ → ℕ → ℤ → Float
number p r (pos k) = odd p false r k 0
number p r (negsuc k) = odd p false r 0 (suc k)

-- The root of x: of a zero it is that zero, and of a number below zero, an infinity or a NaN there is none.
unfoldable pub root_of : Format → Float → Float
root_of f nan = nan
root_of f (inf s) = nan
root_of f (fin s zero e) = fin s zero e
root_of f (fin true (suc m) e) = nan
root_of f (fin false (suc m) e) = number (prec f) (near_root (prec f) (scaled (prec f) (suc m) e)) (root_exponent (prec f) (suc m) e)
