-- What `sqrt` promises, over the format, and what `clamp` promises of the side. The proof is `proofs/Promises.promised`.
use Rattle.std.specs.Prelude.{◌≡◌, Bool, true, false, ℤ, pos, negsuc, Float, if◌then◌else◌, Err, Ok}
use Rattle.std.specs.Float.{Format, nan, fin}
use Rattle.std.specs.Float.Ieee.{lt, le}
use Rattle.refusal.specs.Order.{refused_for}
use Rattle.root.specs.Root.{root_of}
use Rattle.fmath.specs.Answer.{no_root, sqrt_answer}
use Rattle.fmath.specs.Clamp.{clamped, side}

-- the side is -1, 1 or 0 exactly when the number is below lo, above hi, or neither
pub record SideExactly (x lo hi : Float) : Type 0 where
  pub low_where : lt x lo ≡ true → side x lo hi ≡ negsuc 0
  pub low_only : side x lo hi ≡ negsuc 0 → lt x lo ≡ true
  pub high_where : lt hi x ≡ true → side x lo hi ≡ pos 1
  pub high_only : side x lo hi ≡ pos 1 → lt hi x ≡ true
  pub none_where : lt x lo ≡ false → lt hi x ≡ false → side x lo hi ≡ pos 0
  pub none_only : side x lo hi ≡ pos 0 → (lt x lo ≡ false) × (lt hi x ≡ false)

-- the value is the wall that the side names, and the number itself where it names none
pub record ValueBySide (x lo hi : Float) : Type 0 where
  pub raised : side x lo hi ≡ negsuc 0 → clamped x lo hi ≡ lo
  pub lowered : side x lo hi ≡ pos 1 → clamped x lo hi ≡ hi
  pub untouched : side x lo hi ≡ pos 0 → clamped x lo hi ≡ x

-- a zero of either sign, however it is written
abbrev pub zero_of : Bool → ℤ → Float
zero_of s e = fin s 0 e

-- on a limit that is a zero of either sign it is untouched, and so keeps its sign; the other limit does not move it either
pub record ZeroUntouched (s t : Bool) (d e : ℤ) (wall : Float) : Type 0 where
  pub on_low : lt wall (zero_of s d) ≡ false → side (zero_of s d) (zero_of t e) wall ≡ pos 0
  pub on_high : lt (zero_of s d) wall ≡ false → side (zero_of s d) wall (zero_of t e) ≡ pos 0

pub record Promised : Type 0 where
  -- the root where there is one, else 13
  pub sqrt_answer_lem : (f : Format) (x : Float) → sqrt_answer f x ≡ (if no_root x then Err (refused_for 13) else Ok (root_of f x))
  -- 13 exactly below zero, at an infinity and at a NaN
  pub sqrt_refused_where : (f : Format) (x : Float) → no_root x ≡ true → sqrt_answer f x ≡ Err (refused_for 13)
  pub sqrt_refused_only : (f : Format) (x : Float) → sqrt_answer f x ≡ Err (refused_for 13) → no_root x ≡ true
  -- of which wall moved a number: for lo at most hi, and of the value whatever the walls are
  pub side_exactly : (x lo hi : Float) → le lo hi ≡ true → SideExactly x lo hi
  pub value_by_side : (x lo hi : Float) → ValueBySide x lo hi
  pub side_of_nan : (lo hi : Float) → side nan lo hi ≡ pos 0
  pub zero_untouched : (s t : Bool) (d e : ℤ) (wall : Float) → ZeroUntouched s t d e wall
