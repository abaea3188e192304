-- `root::rounds::take_apart` meets its contract: the pattern of a normal number is at least that of the field's lowest digit.
use Rattle.std.proofs.Common.{◌≡◌, ℕ, ◌+◌, ◌-◌, ◌*◌, ◌/◌, ◌%◌, ◌^◌, ◌<◌, ◌≤◌, Bool, true, false, not, T, leb, ℤ, pos, ◌-ℤ◌, ap, lt_of_le_of_lt, arith, lit<, leb→le, w64, to_z, eq-eqb, ne_eqb}
use lib.Dec.{nleb→lt}
use lib.IntN.{sub_ℕ}
use lib.Signed.{mag}
use lib.Ieee.{binary64}
use mir.Val.{bool_byte}
use mir.ValLaws.{to_z_pos}
use Rattle.root.specs.Of.{unpacked}
use Rattle.root.proofs.Whole.{sub_mag, returned}
use Rattle.root.proofs.Written.{placed}
use Rattle.root.proofs.rounds.take_apart.Goals as goal

-- whether a pattern has a leading digit that is not written
abbrev normal : ℕ → ℕ
normal b = bool_byte (leb (2 ^ 52) b)

record Read (b n : ℕ) : Type 0 where
  flag : n ≤ 1
  field : n ≤ b / 2 ^ 52
  parts : placed binary64 (b % 2 ^ 52 + n * 2 ^ 52) (b / 2 ^ 52 - n) ≡ unpacked binary64 b

read : (b : ℕ) → Read b (normal b)
read b = go (leb (2 ^ 52) b) (leb→le (2 ^ 52) b) (nleb→lt (2 ^ 52) b)
  where
    go : (t : Bool) → (T t → 2 ^ 52 ≤ b) → (T (not t) → b < 2 ^ 52) → Read b (bool_byte t)
    go true y n =
        let l = y tt in
        let d : b % 2 ^ 52 + 1 * 2 ^ 52 ≡ b % 2 ^ 52 + 2 ^ 52 = omega arith in
        record { flag = omega arith; field = omega arith; parts = rw (ne_eqb (b / 2 ^ 52) 0 (λ e. omega arith), d) }
    go false y n =
        let l = n tt in
        let d : b % 2 ^ 52 + 0 * 2 ^ 52 ≡ b = omega arith in
        let k : b / 2 ^ 52 - 0 ≡ 0 = omega arith in
        record { flag = omega arith; field = omega arith; parts = rw (eq-eqb (b / 2 ^ 52) 0 (omega arith), d, k) }

pub overflow_mul-result : goal.overflow_mul-result
overflow_mul-result c = omega (arith, (read c.args.bits).flag)

pub overflow_add-result : goal.overflow_add-result
overflow_add-result c = omega (arith, (read c.args.bits).flag)

pub overflow_sub-result : goal.overflow_sub-result
overflow_sub-result c = (read c.args.bits).field

abbrev count : goal.Start → ℕ
count s = s.args.bits / 2 ^ 52 - normal s.args.bits

small : (s : goal.Start) → mag (sub_ℕ (count s) 1074) < 2 ^ 32
small s = lt_of_le_of_lt (sub_mag (count s) 1074 4096 (omega (arith, s.requires)) (omega arith)) (lit< tt)

lowered : (s : goal.Start) → to_z w64 (count s) -ℤ pos 1074 ≡ sub_ℕ (count s) 1074
lowered s = ap (λ (z : ℤ). z -ℤ pos 1074) (to_z_pos w64 (count s) (omega (arith, s.requires)))

pub overflow_sub-result-2 : goal.overflow_sub-result-2
overflow_sub-result-2 c = rw (lowered c) (record { sfits = omega (arith, small c) })

pub returns : goal.returns
returns c = rw (returned _ _ (lowered c) (omega (arith, small c))) (read c.args.bits).parts
