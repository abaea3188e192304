-- What `scale` computes, on plain values: its exponents are small, so that each is read back from its bits, its shift is natural, and the digits that it hands to
-- the rounds are those of X.
use Rattle.std.proofs.Common.{◌≡◌, ℕ, ◌+◌, ◌-◌, ◌*◌, ◌%◌, ◌^◌, ◌<◌, ◌≤◌, ℤ, pos, ◌+ℤ◌, ◌-ℤ◌, ◌*ℤ◌, sym, ap, ◌∙◌, subst, lt_of_lt_of_le, lt_of_le_of_lt, arith, pow_mono, w64, to_z, of_z}
use lib.Count.{count_leading_zeros}
use lib.Ieee.{size}
use lib.Ieee.Digits.{size-le}
use lib.Signed.{mag, mag_shr, shr_z}
use mir.ValLaws.{to_z_pos}
use Rattle.root.specs.declared.rounds.Parts.{Parts}
use Rattle.root.specs.Root.{half, root_exponent, scaled}
use Rattle.root.specs.Of.{Ranged}
use Rattle.root.proofs.Whole.{sub_mag, add_mag, minus_mag, twice_mag, read_back}
use Rattle.root.proofs.Units.{leading_size, pairs, pairs_is, exponent_is, left_in, excess_is as left_is, shifted_is, Left}

module _ (x : Parts) (p : ℕ) (r : Ranged x p) where
  pub few_digits : size x.digits ≤ p
  few_digits = size-le x.digits p r.few

  pub count_leading : count_leading_zeros 64 x.digits + size x.digits ≡ 64
  count_leading = let l : p ≤ 64 = omega (arith, r.short) in leading_size x.digits r.some (lt_of_lt_of_le r.few (pow_mono l))

  pub exponent_small : mag x.exponent ≤ 4096
  exponent_small = subst (λ (z : ℤ). mag z ≤ 4096) (sym r.exponent) (sub_mag r.k r.l 4096 r.above r.below)

  pub half_small : mag (root_exponent p x.digits x.exponent) ≤ 8192
  half_small =
      let i = pairs p (x.digits * 2 ^ (r.k + r.l)) in
      let few = few_digits in
      let b : i ≤ 8192 = omega (arith, pairs_is p x.digits (r.k + r.l) r.some, r.above, r.below, r.short) in
      subst (λ (z : ℤ). mag (root_exponent p x.digits z) ≤ 8192) (sym r.exponent)
      (rw (exponent_is p x.digits r.k r.l r.some few r.precise r.room) (sub_mag i r.l 8192 b (omega (arith, r.below))))

  pub left_over : Left p x.digits (r.k + r.l)
  left_over = left_in p x.digits r.k r.l r.some few_digits r.precise r.room

  pub over_is : x.exponent -ℤ pos 2 *ℤ root_exponent p x.digits x.exponent ≡ pos left_over.j
  unfolding left_over
  over_is =
      subst (λ (z : ℤ). z -ℤ pos 2 *ℤ root_exponent p x.digits z ≡ pos left_over.j) (sym r.exponent)
      (left_is p x.digits r.k r.l r.some few_digits r.precise r.room)

  pub digits_are : x.digits * 2 ^ (left_over.j + 64 - 2 * p) % 2 ^ 64 * 4 ^ p ≡ scaled p x.digits x.exponent * 2 ^ 64
  unfolding left_over
  digits_are =
      shifted_is p x.digits r.k r.l r.some few_digits r.precise r.room r.short
      ∙ ap (λ (z : ℤ). scaled p x.digits z * 2 ^ 64) (sym r.exponent)

  -- ---- the signed numbers on the way, as they are read back from their bits

  abbrev pub digits_counted : ℕ
  digits_counted = 64 - count_leading_zeros 64 x.digits

  counted_is : digits_counted ≡ size x.digits
  counted_is = omega (arith, count_leading)

  exponent_back : to_z w64 (of_z w64 x.exponent) ≡ x.exponent
  exponent_back = read_back x.exponent (omega (arith, exponent_small))

  abbrev pub raised : ℤ
  raised = to_z w64 (of_z w64 x.exponent) +ℤ to_z w64 (digits_counted + 1)

  raised_is : raised ≡ x.exponent +ℤ pos (size x.digits + 1)
  raised_is =
      ap (λ (z : ℤ). z +ℤ to_z w64 (digits_counted + 1)) exponent_back
      ∙ ap (λ (z : ℤ). x.exponent +ℤ z) (to_z_pos w64 (digits_counted + 1) (omega arith) ∙ ap (λ (n : ℕ). pos (n + 1)) counted_is)

  pub raised_small : mag raised < 2 ^ 33
  raised_small =
      let m = add_mag x.exponent (pos (size x.digits + 1)) in
      subst (λ (z : ℤ). mag z < 2 ^ 33) (sym raised_is) (omega (arith, exponent_small, few_digits, r.short, m))

  abbrev pub lowered : ℤ
  lowered = to_z w64 (of_z w64 raised) -ℤ to_z w64 (2 * p)

  lowered_is : lowered ≡ x.exponent +ℤ pos (size x.digits + 1) -ℤ pos (2 * p)
  lowered_is =
      ap (λ (z : ℤ). z -ℤ to_z w64 (2 * p)) (read_back raised (omega (arith, raised_small)) ∙ raised_is)
      ∙ ap (λ (z : ℤ). x.exponent +ℤ pos (size x.digits + 1) -ℤ z) (to_z_pos w64 (2 * p) (omega (arith, r.short)))

  pub lowered_small : mag lowered < 2 ^ 34
  lowered_small =
      let up = x.exponent +ℤ pos (size x.digits + 1) in
      let m = add_mag x.exponent (pos (size x.digits + 1)) in
      let n = minus_mag up (pos (2 * p)) in
      subst (λ (z : ℤ). mag z < 2 ^ 34) (sym lowered_is) (omega (arith, exponent_small, few_digits, r.short, m, n))

  abbrev pub halved : ℤ
  halved = to_z w64 (of_z w64 (shr_z (to_z w64 (of_z w64 lowered)) 2))

  lowered_back : to_z w64 (of_z w64 lowered) ≡ lowered
  lowered_back = read_back lowered (omega (arith, lowered_small))

  pub halved_is : halved ≡ root_exponent p x.digits x.exponent
  unfolding root_exponent half
  halved_is =
      ap (λ (z : ℤ). to_z w64 (of_z w64 (shr_z z 2))) lowered_back
      ∙ read_back (shr_z lowered 2) (lt_of_le_of_lt (mag_shr lowered 2) (omega (arith, lowered_small)))
      ∙ ap (λ (z : ℤ). shr_z z 2) lowered_is

  abbrev pub doubled : ℤ
  doubled = pos 2 *ℤ halved

  pub doubled_small : mag doubled < 2 ^ 32
  doubled_small =
      let m = twice_mag (root_exponent p x.digits x.exponent) in
      subst (λ (z : ℤ). mag (pos 2 *ℤ z) < 2 ^ 32) (sym halved_is) (omega (arith, half_small, m))

  abbrev pub excess : ℤ
  excess = to_z w64 (of_z w64 x.exponent) -ℤ to_z w64 (of_z w64 doubled)

  pub excess_is : excess ≡ pos left_over.j
  excess_is =
      ap (λ (z : ℤ). z -ℤ to_z w64 (of_z w64 doubled)) exponent_back
      ∙ ap (λ (z : ℤ). x.exponent -ℤ z) (read_back doubled (omega (arith, doubled_small)) ∙ ap (λ (z : ℤ). pos 2 *ℤ z) halved_is)
      ∙ over_is
