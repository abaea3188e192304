-- `root::has_digits` meets its contract: what is above zero is an infinity, or its pattern lies below the infinity's.
use Rattle.std.proofs.Common.{◌≡◌, zero, suc, ◌*◌, true, false, not, T, ltb, ◌⊎◌, sym, refl, ◌∙◌, subst, inl, inr, zero-lt-suc, mul-pos, zero-mul, mul-one, lt→ltb, lt-ltb}
use mathlib.Core.Bool.{false≢true}
use lib.Ieee.{Float, nan, inf, fin, binary64, up, down, hid, ones, fits, of_bits, to_bits, is_nan, lt}
use lib.Ieee.Bits.{is_true}
use lib.Ieee.Fits.{up_pos}
use lib.Ieee.Positive.{positive}
use Rattle.root.proofs.Patterns.{between, not_nan}
use Rattle.root.proofs.has_digits.Goals as goal

above : (x : Float) → lt (of_bits binary64 0) x ≡ true → (x ≡ inf false) ⊎ T (positive x)
unfolding of_bits lt
above nan e = absurd (false≢true e)
above (inf true) e = absurd (false≢true e)
above (inf false) e = inl refl
above (fin true m k) e = absurd (false≢true e)
above (fin false zero k) e = absurd (false≢true (sym (rw (zero-mul (down k), zero-mul (up k))) ∙ e))
above (fin false (suc m) k) e = inr (lt→ltb 0 (suc m) (zero-lt-suc m))

not_above : (x : Float) → lt (of_bits binary64 0) x ≡ false → positive x ≡ false
unfolding of_bits lt
not_above nan e = refl
not_above (inf s) e = refl
not_above (fin true m k) e = refl
not_above (fin false zero k) e = refl
not_above (fin false (suc m) k) e = absurd (false≢true (sym e ∙ rw (zero-mul (down k), mul-one (suc m * up k)) (lt-ltb 0 (suc m * up k) (mul-pos (zero-lt-suc m) (up_pos k)))))

below-infinity : (x : Float) → T (fits binary64 x) → (x ≡ inf false) ⊎ T (positive x) → ltb (to_bits binary64 x) (ones binary64 * hid binary64) ≡ positive x
unfolding to_bits
below-infinity x h (inl e) = rw e
below-infinity x h (inr p) = lt-ltb (to_bits binary64 x) (ones binary64 * hid binary64) (between binary64 x h p).1 ∙ sym (is_true (positive x) p)

no-nan-above : (x : Float) → (x ≡ inf false) ⊎ T (positive x) → T (not (is_nan x))
unfolding is_nan
no-nan-above x (inl e) = rw e tt
no-nan-above x (inr p) = not_nan x p

pub float_to_bits-result : goal.float_to_bits-result
float_to_bits-result c = let x = c.args.x in no-nan-above x (above x c.if-x.true)

pub returns-then-x : goal.returns-then-x
returns-then-x c = let x = c.args.x in below-infinity x (subst T (sym c.well_formed.0.1) tt) (above x c.if-x.true)

pub returns-else-x : goal.returns-else-x
returns-else-x c = sym (not_above c.args.x c.if-x.false)
