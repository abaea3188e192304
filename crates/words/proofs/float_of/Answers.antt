-- `words::float_of` meets its contract: a pattern is a NaN's, or `from_bits` is defined there.
use Prim.Native.Nat.{ℕ}
use native.Mathlib.Omega.{arith}
use mathlib.Core.Path.{◌≡◌, refl, sym, ◌∙◌}
use mathlib.Core.Bool.{Bool, true, false, not}
use lib.Dec.{T}
use lib.Ieee.{Float, nan, inf, fin, is_nan, of_bits, nan_bits, div, binary64}
use lib.Ieee.Bits.{nan_bits_is}
use Rattle.words.proofs.float_of.Goals as goal

nan-of : (x : Float) → is_nan x ≡ true → nan ≡ x
unfolding is_nan
nan-of nan h = refl
nan-of (inf s) h = cc
nan-of (fin s m e) h = cc

none : (b : Bool) → b ≡ false → T (not b)
none true h = let z : ◌≡◌ {A = ℕ} 0 1 = cc in omega arith
none false h = tt

pub returns-then-field-digits : goal.returns-then-field-digits
unfolding nan_bits div of_bits
returns-then-field-digits c = nan-of (of_bits binary64 c.args.bits) (sym (nan_bits_is binary64 c.args.bits) ∙ c.if-field-digits.true)

pub float_from_bits-result : goal.float_from_bits-result
unfolding nan_bits
float_from_bits-result c = none _ c.if-field-digits.false
