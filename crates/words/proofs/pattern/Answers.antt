-- `words::pattern` meets its contract: a float differs from itself and is a NaN, or `to_bits` is defined there.
use mathlib.Core.Path.{subst, ◌≡◌, sym, ◌∙◌}
use lib.Ieee.Compare.{differs_from_itself, nan_differs}
use mathlib.Core.Bool.{true, false, not, true≢false}
use lib.Dec.{T}
use lib.Ieee.{Float, nan, inf, fin, is_nan, ne, to_bits, binary64}
use Rattle.words.proofs.pattern.Goals as goal

-- a float that does not differ from itself is no NaN
not_nan : (x : Float) → ne x x ≡ false → T (not (is_nan x))
unfolding is_nan
not_nan nan h = absurd (true≢false (sym nan_differs ∙ h))
not_nan (inf s) h = tt
not_nan (fin s m e) h = tt

at-nan : (x : Float) → ne x x ≡ true → 9221120237041090560 ≡ to_bits binary64 x
unfolding to_bits
at-nan x h = rw (differs_from_itself x (subst T (sym h) tt))

pub returns-then-x : goal.returns-then-x
returns-then-x c = at-nan c.args.x c.if-x.true

pub float_to_bits-result : goal.float_to_bits-result
float_to_bits-result c = not_nan c.args.x c.if-x.false
