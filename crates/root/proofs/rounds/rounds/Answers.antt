-- `root::rounds::rounds` meets its contract: what stands after k rounds of the loop is what stands after k rounds of the rule (`ComeDown`).
use Rattle.std.proofs.Common.{◌≡◌, ℕ, ◌+◌, ◌-◌, ◌*◌, ◌/◌, ◌%◌, ◌^◌, ◌<◌, ◌≤◌, eqb, leb, sym, refl, ◌∙◌, subst, lt_of_lt_of_le, add-one, arith, pow_mono}
use mir.Val.{bool_byte}
use Rattle.root.proofs.TwoSteps.{digit_is, digit_le, greatest_is}
use Rattle.root.proofs.ComeDown.{Stands, starts, down, from, Next, next, down_le, comes_lt, again, root_lt, rest_le, last}
use Rattle.root.proofs.rounds.rounds.Goals as goal

odd-le : (n : ℕ) → n % 2 ≤ 1
odd-le n = omega arith

-- what is known in a round
module _ (c : goal.In-loop-round) where
  abbrev w : ℕ
  w = c.args.left

  abbrev o : ℕ
  o = c.args.precision % 2

  abbrev k : ℕ
  k = c.loop-round.round

  abbrev root : ℕ
  root = c.loop-round.root

  stands : Stands w o k c.loop-round.left root c.loop-round.rest
  stands = c.loop-round.invariant.2

  fits : w < 2 ^ 64
  fits = c.ranges.left.fits

  small : root < 2 ^ 58
  small = lt_of_lt_of_le (root_lt w o k c.loop-round.left root c.loop-round.rest fits stands) (pow_mono (few k c.args.precision c.loop-round-test.true c.requires))
    where
      few : (k n : ℕ) → k < (n + 1) / 2 → n ≤ 60 → 2 * k - n % 2 ≤ 58
      few k n a b = omega arith

  little : c.loop-round.rest ≤ 2 * root
  little = rest_le w o k c.loop-round.left root c.loop-round.rest fits stands

  brought : Next w o k
  brought = next w o k fits (odd-le c.args.precision)

  comes : c.loop-round.left / 2 ^ (64 - down o k) < 16
  comes = comes_lt w o k c.loop-round.left root c.loop-round.rest fits (odd-le c.args.precision) stands

  abbrev takes : ℕ
  takes = from o k c.loop-round.left c.loop-round.rest

  -- the three tests of the code
  abbrev digit : ℕ
  digit = bool_byte (leb (8 * root + 1) takes) + bool_byte (leb (16 * root + 4) takes) + bool_byte (leb (24 * root + 9) takes)

  small-digit : digit ≤ 3
  small-digit = digit_le (leb (8 * root + 1) takes) (leb (16 * root + 4) takes) (leb (24 * root + 9) takes)

  digit-fits : digit * (8 * root + digit) ≤ takes
  digit-fits = subst (λ (d : ℕ). d * (8 * root + d) ≤ takes) (sym (digit_is root takes)) (greatest_is 3 root takes).1

pub loop-round-init : goal.loop-round-init
loop-round-init c = (omega arith, refl, starts c.args.left (c.args.precision % 2) c.ranges.left.fits)

pub overflow_mul-down : goal.overflow_mul-down
overflow_mul-down c = omega arith

pub overflow_mul-down-in-loop-round : goal.overflow_mul-down-in-loop-round
overflow_mul-down-in-loop-round c = omega (arith, down_le (o c) (eqb (k c) 0) (odd-le c.args.precision))

pub overflow_sub-down : goal.overflow_sub-down
overflow_sub-down c = omega (arith, down_le (o c) (eqb (k c) 0) (odd-le c.args.precision))

pub overflow_mul-next : goal.overflow_mul-next
overflow_mul-next c = omega (arith, small c, little c)

pub overflow_sub-next : goal.overflow_sub-next
overflow_sub-next c = omega (arith, (brought c).few)

pub overflow_shr-next : goal.overflow_shr-next
overflow_shr-next c = omega (arith, (brought c).few)

pub overflow_add-next : goal.overflow_add-next
overflow_add-next c = omega (arith, small c, little c, comes c)

pub overflow_mul-digit : goal.overflow_mul-digit
overflow_mul-digit c = omega (arith, small c)

pub overflow_add-digit : goal.overflow_add-digit
overflow_add-digit c = omega (arith, small c)

pub overflow_mul-digit-in-loop-round : goal.overflow_mul-digit-in-loop-round
overflow_mul-digit-in-loop-round c = omega (arith, small c)

pub overflow_add-digit-in-loop-round : goal.overflow_add-digit-in-loop-round
overflow_add-digit-in-loop-round c = omega (arith, small c)

pub overflow_add-digit-in-loop-round-2 : goal.overflow_add-digit-in-loop-round-2
overflow_add-digit-in-loop-round-2 c = omega (arith, small-digit c)

pub overflow_mul-digit-in-loop-round-2 : goal.overflow_mul-digit-in-loop-round-2
overflow_mul-digit-in-loop-round-2 c = omega (arith, small c)

pub overflow_add-digit-in-loop-round-3 : goal.overflow_add-digit-in-loop-round-3
overflow_add-digit-in-loop-round-3 c = omega (arith, small c)

pub overflow_add-digit-in-loop-round-4 : goal.overflow_add-digit-in-loop-round-4
overflow_add-digit-in-loop-round-4 c = omega (arith, small-digit c)

pub overflow_mul-rest : goal.overflow_mul-rest
overflow_mul-rest c = omega (arith, small c)

pub overflow_add-rest : goal.overflow_add-rest
overflow_add-rest c = omega (arith, small c, small-digit c)

pub overflow_mul-rest-in-loop-round : goal.overflow_mul-rest-in-loop-round
overflow_mul-rest-in-loop-round c = omega (arith, small c, little c, comes c, digit-fits c)

pub overflow_sub-rest : goal.overflow_sub-rest
overflow_sub-rest c = digit-fits c

pub overflow_mul-root : goal.overflow_mul-root
overflow_mul-root c = omega (arith, small c)

pub overflow_add-root : goal.overflow_add-root
overflow_add-root c = omega (arith, small c, small-digit c)

pub overflow_shl-left : goal.overflow_shl-left
overflow_shl-left c = omega (arith, (brought c).few)

pub overflow_step-round : goal.overflow_step-round
overflow_step-round c = omega arith

pub loop-round-smaller : goal.loop-round-smaller
loop-round-smaller c = omega arith

pub loop-round-preserved : goal.loop-round-preserved
loop-round-preserved c =
    let l = c.loop-round in
    let s = again (w c) (o c) (k c) l.left (root c) l.rest (digit c) (fits c) (odd-le c.args.precision) (stands c) (digit_is (root c) (takes c)) in
    (omega arith, refl, subst (λ (j : ℕ). Stands (w c) (o c) j (l.left * 2 ^ down (o c) (k c) % 2 ^ 64) (4 * root c + digit c) (takes c - digit c * (8 * root c + digit c))) (sym (add-one (k c))) s)

-- after the last round
module _ (c : goal.After-loop-round) where
  end_small : c.loop-round.root < 2 ^ 60
  end_small =
      let s = c.args in
      let l = c.loop-round in
      let few : 2 * l.round - s.precision % 2 ≤ 60 = omega (arith, c.requires) in
      lt_of_lt_of_le (root_lt s.left (s.precision % 2) l.round l.left l.root l.rest c.ranges.left.fits l.invariant.2) (pow_mono few)

pub nearest-requires : goal.nearest-requires
nearest-requires c = omega (arith, end_small c)

pub returns : goal.returns
returns c =
    let s = c.args in
    let l = c.loop-round in
    let all_done : 2 * l.round - s.precision % 2 ≡ s.precision = omega arith in
    c.nearest.ensures ∙ sym (last s.left (s.precision % 2) l.round l.left l.root l.rest c.ranges.left.fits l.invariant.2 s.precision all_done)
