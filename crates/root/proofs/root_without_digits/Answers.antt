-- `root::root_without_digits` meets its contract, by the kinds of number that there are.
use Rattle.std.proofs.Common.{◌≡◌, ℕ, zero, suc, ◌*◌, ◌<◌, Bool, true, false, cond, sym, refl, ap, ◌∙◌, true≢false, zero-lt-suc, mul-pos, zero-mul, mul-one, arith, lt-ltb, ne_eqb}
use lib.Ieee.{Float, nan, inf, fin, binary64, up, down, of_bits, div, eq}
use lib.Ieee.Fits.{up_pos}
use lib.Ieee.Positive.{positive}
use Rattle.root.specs.Root.{root_of}
use Rattle.root.proofs.root_without_digits.Goals as goal

zero-or-none : (x : Float) → positive x ≡ false → root_of binary64 x ≡ cond (eq x (of_bits binary64 0)) x nan
unfolding root_of eq of_bits
zero-or-none nan p = refl
zero-or-none (inf s) p = refl
zero-or-none (fin true zero e) p = rw (zero-mul (up e), zero-mul (down e))
zero-or-none (fin false zero e) p = rw (zero-mul (up e), zero-mul (down e))
zero-or-none (fin true (suc m) e) p = rw (zero-mul (down e), mul-one (suc m * up e), ne_eqb (suc m * up e) 0 (some (suc m * up e) (mul-pos (zero-lt-suc m) (up_pos e))))
  where
    some : (n : ℕ) → 0 < n → n ≡ 0 → ⊥
    some n h e = omega arith
zero-or-none (fin false (suc m) e) p = absurd (true≢false (sym (lt-ltb 0 (suc m) (zero-lt-suc m)) ∙ p))

pub returns-then-x : goal.returns-then-x
returns-then-x c = sym (zero-or-none c.args.x c.requires ∙ ap (λ (b : Bool). cond b c.args.x nan) c.if-x.true)

pub returns-else-x : goal.returns-else-x
unfolding div of_bits
returns-else-x c = sym (zero-or-none c.args.x c.requires ∙ ap (λ (b : Bool). cond b c.args.x nan) c.if-x.false)
