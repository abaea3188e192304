-- `root::rounds::put_together` meets its contract: the exponent with its bias is a natural number.
use Rattle.std.proofs.Common.{◌≡◌, ℕ, ◌+◌, ◌*◌, ◌^◌, ◌<◌, T, ℤ, pos, ◌+ℤ◌, nat_abs, sym, ap, ◌∙◌, subst, arith, w64, to_z, of_z}
use lib.Signed.{mag, non_neg}
use lib.Ieee.{binary64}
use Rattle.root.specs.Root.{number}
use Rattle.root.specs.Of.{Written}
use Rattle.root.proofs.Whole.{read_back, cast_up}
use Rattle.root.proofs.Written.{packed, placed_back, bias_back}
use Rattle.root.proofs.rounds.put_together.Goals as goal

module _ (s : goal.Start) where
  abbrev w : ℕ
  w = s.requires.weight

  -- its pattern
  pattern : Written binary64 (w * 2 ^ 52 + s.args.digits) (number 53 s.args.digits s.args.exponent)
  pattern = subst (λ (z : ℤ). Written binary64 (w * 2 ^ 52 + s.args.digits) (number 53 s.args.digits z)) (sym s.requires.is) (packed binary64 s.args.digits w s.requires.leading s.requires.few s.requires.middle)

  back : to_z w64 (of_z w64 s.args.exponent) ≡ s.args.exponent
  back = subst (λ (z : ℤ). to_z w64 (of_z w64 z) ≡ z) (sym s.requires.is) (placed_back binary64 w s.requires.middle)

  -- the exponent with its bias
  abbrev biased : ℤ
  biased = to_z w64 (of_z w64 s.args.exponent) +ℤ pos 1074

  biased_is : biased ≡ pos w
  biased_is = ap (λ (z : ℤ). z +ℤ pos 1074) (back ∙ s.requires.is) ∙ bias_back w 1074

  small : mag biased < 2 ^ 63
  small = subst (λ (z : ℤ). mag z < 2 ^ 63) (sym biased_is) (omega (arith, s.requires.middle))

  is_weight : nat_abs (to_z w64 (of_z w64 biased)) ≡ w
  is_weight = ap nat_abs (read_back biased small ∙ biased_is)

pub overflow_add-result : goal.overflow_add-result
overflow_add-result c = record { sfits = small c }

pub overflow_cast-result : goal.overflow_cast-result
overflow_cast-result c = (cast_up (biased c) (small c) (subst (λ (z : ℤ). T (non_neg z)) (sym (biased_is c)) tt)).0

pub overflow_mul-result : goal.overflow_mul-result
overflow_mul-result c = omega (arith, is_weight c, c.requires.middle)

pub overflow_add-result-2 : goal.overflow_add-result-2
overflow_add-result-2 c = omega (arith, is_weight c, (pattern c).1)

pub returns : goal.returns
returns c = subst (λ (n : ℕ). Written binary64 (n * 2 ^ 52 + c.args.digits) (number 53 c.args.digits c.args.exponent)) (sym (is_weight c)) (pattern c)
