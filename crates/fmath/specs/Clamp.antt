-- clamp: a number moved between two walls, and which of them moved it.
use Rattle.std.specs.Prelude.{Bool, cond, ℤ, pos, negsuc, Float}
use Rattle.std.specs.Int.Signed.{lt_z}
use Rattle.std.specs.Float.Ieee.{lt}
use Rattle.fmath.specs.declared.Sided.{Sided}

-- lo if x < lo, hi if x > hi, else x
unfoldable pub clamped : Float → Float → Float → Float
clamped x lo hi = cond (lt x lo) lo (cond (lt hi x) hi x)

-- -1 if x was raised to lo, 1 if it was lowered to hi, 0 if it was not touched
unfoldable pub side : Float → Float → Float → ℤ
side x lo hi = cond (lt x lo) (negsuc 0) (cond (lt hi x) (pos 1) (pos 0))

-- the value with its side
abbrev pub sided : Float → Float → Float → Sided
sided x lo hi = record { value = clamped x lo hi; side = side x lo hi }

-- the low wall raised it; the high wall lowered it
abbrev pub raised : Float → Float → Float → Bool
raised x lo hi = lt_z (side x lo hi) (pos 0)

abbrev pub lowered : Float → Float → Float → Bool
lowered x lo hi = lt_z (pos 0) (side x lo hi)
