-- `root::rounds::scale` meets its contract, by the laws of `Parted`: each signed number is small, and the shift leaves room for the digits.
use Rattle.std.proofs.Common.{◌≡◌, ℕ, ◌+◌, ◌-◌, ◌*◌, ◌^◌, ◌<◌, ◌≤◌, T, ℤ, nat_abs, sym, ap, subst, arith, w64, to_z, of_z}
use lib.Signed.{mag, non_neg}
use Rattle.root.specs.declared.rounds.Parts.{Parts}
use Rattle.root.specs.Of.{Ranged}
use Rattle.root.proofs.Units.{size_pos}
use Rattle.root.proofs.Whole.{cast_up, returned}
use Rattle.root.proofs.Parted.{few_digits, count_leading, left_over, digits_are, raised_small, lowered_small, halved_is, doubled_small, excess, excess_is}
use Rattle.root.proofs.rounds.scale.Goals as goal

-- the shift before the digits are moved to the top
module _ (x : Parts) (p : ℕ) (r : Ranged x p) where
  abbrev j : ℕ
  j = (left_over x p r).j

  room : (2 * p ≤ j + 64) × (j + 64 - 2 * p < 64) × (j ≤ 120)
  room =
      let l = left_over x p r in
      let some = size_pos x.digits r.some in
      let few = few_digits x p r in
      omega (arith, l.least, l.most, r.short)

  excess_small : mag (excess x p r) < 2 ^ 63
  excess_small = subst (λ (z : ℤ). mag z < 2 ^ 63) (sym (excess_is x p r)) (omega (arith, room.2))

  is_j : nat_abs (to_z w64 (of_z w64 (excess x p r))) ≡ j
  is_j = ap nat_abs (returned _ _ (excess_is x p r) (omega (arith, room.2)))

pub overflow_cast-size : goal.overflow_cast-size
overflow_cast-size c = omega (arith, count_leading c.args.number c.args.precision c.requires)

pub overflow_sub-size : goal.overflow_sub-size
overflow_sub-size c = omega (arith, count_leading c.args.number c.args.precision c.requires)

pub overflow_add-exponent-2 : goal.overflow_add-exponent-2
overflow_add-exponent-2 c = record { sfits = omega (arith, raised_small c.args.number c.args.precision c.requires) }

pub overflow_mul-exponent : goal.overflow_mul-exponent
overflow_mul-exponent c = omega (arith, c.requires.short)

pub overflow_cast-exponent-2 : goal.overflow_cast-exponent-2
overflow_cast-exponent-2 c = record { sfits = omega (arith, c.requires.short) }

pub overflow_sub-exponent : goal.overflow_sub-exponent
overflow_sub-exponent c = record { sfits = omega (arith, lowered_small c.args.number c.args.precision c.requires) }

pub overflow_mul-result : goal.overflow_mul-result
overflow_mul-result c = record { sfits = omega (arith, doubled_small c.args.number c.args.precision c.requires) }

pub overflow_sub-result : goal.overflow_sub-result
overflow_sub-result c = record { sfits = excess_small c.args.number c.args.precision c.requires }

pub overflow_cast-result : goal.overflow_cast-result
overflow_cast-result c = (cast_up (excess c.args.number c.args.precision c.requires) (excess_small c.args.number c.args.precision c.requires) (subst (λ (z : ℤ). T (non_neg z)) (sym (excess_is c.args.number c.args.precision c.requires)) tt)).0

pub overflow_add-result : goal.overflow_add-result
overflow_add-result c = omega (arith, is_j c.args.number c.args.precision c.requires, (room c.args.number c.args.precision c.requires).2)

pub overflow_sub-result-2 : goal.overflow_sub-result-2
overflow_sub-result-2 c = omega (arith, is_j c.args.number c.args.precision c.requires, (room c.args.number c.args.precision c.requires).0)

pub overflow_shl-result : goal.overflow_shl-result
overflow_shl-result c = omega (arith, is_j c.args.number c.args.precision c.requires, (room c.args.number c.args.precision c.requires).1)

pub returns : goal.returns
returns c =
    record { whole = rw (is_j c.args.number c.args.precision c.requires) (digits_are c.args.number c.args.precision c.requires); exponent = halved_is c.args.number c.args.precision c.requires }
