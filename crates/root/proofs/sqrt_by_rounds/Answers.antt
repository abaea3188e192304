-- `root::sqrt_by_rounds` meets its contract: a number above zero is what its bits stand for, and the others have no digits.
use Rattle.std.proofs.Common.{◌≡◌, T, Bool, true, sym, ap, ◌∙◌, subst}
use lib.Ieee.{Float, binary64, fits}
use lib.Ieee.Bits.{of_bits-to_bits}
use lib.Ieee.Positive.{positive}
use Rattle.root.specs.Root.{root_of}
use Rattle.root.proofs.Patterns.{between, not_nan, no_nan}
use Rattle.root.proofs.sqrt_by_rounds.Goals as goal

held : (x : Float) → fits binary64 x ≡ true → T (fits binary64 x)
held x well_formed = subst T (sym well_formed) tt

above : (x : Float) (b : Bool) → b ≡ positive x → b ≡ true → T (positive x)
above x b e h = subst T (sym (sym e ∙ h)) tt

pub float_to_bits-x : goal.float_to_bits-x
float_to_bits-x c = not_nan c.args.x (above c.args.x c.has_digits.result c.has_digits.ensures c.if-has_digits.true)

pub root_bits-requires : goal.root_bits-requires
root_bits-requires c = between binary64 c.args.x (held c.args.x c.well_formed.0.1) (above c.args.x c.has_digits.result c.has_digits.ensures c.if-has_digits.true)

pub float_from_bits-result : goal.float_from_bits-result
float_from_bits-result c = no_nan binary64 c.root_bits.result c.root_bits.ensures.1

pub returns-then-has_digits : goal.returns-then-has_digits
returns-then-has_digits c = c.root_bits.ensures.0 ∙ ap (root_of binary64) (of_bits-to_bits binary64 c.args.x (held c.args.x c.well_formed.0.1))
