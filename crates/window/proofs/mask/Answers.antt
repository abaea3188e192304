-- `window::mask` meets its contract: at a length below 64 the power of two fits 64 bits.
use Prim.Native.Nat.{ℕ, ◌*◌, ◌%◌, ◌^◌, ◌≤◌, ◌<◌}
use mathlib.Core.Path.{◌≡◌, ap, ◌∙◌}
use mathlib.Core.Bool.{false, ◌||◌}
use native.Mathlib.Nat.{one-mul, mod-eq_of_lt}
use native.Mathlib.Omega.{arith}
use borrow.Author.Tests.{ltb-false}
use lib.Dec.{ltb}
use lib.Pow.{pow-lt, pow_pos}
use Rattle.checked.proofs.Each.{neither}
use Rattle.window.proofs.mask.Goals as goal

small : (n : ℕ) → ltb n 1 || ltb 63 n ≡ false → n < 64
small n e = let h : n ≤ 63 = ltb-false 63 n (neither (ltb n 1) (ltb 63 n) e).1 in omega arith

fits : (n : ℕ) → n < 64 → 1 * 2 ^ n % 2 ^ 64 ≡ 2 ^ n
fits n h = ap (λ (x : ℕ). x % 2 ^ 64) (one-mul (2 ^ n)) ∙ mod-eq_of_lt (pow-lt h)

pub returns-then-n : goal.returns-then-n
returns-then-n c = rw (c.of.ensures, c.if-n.true)

pub overflow_shl-result : goal.overflow_shl-result
overflow_shl-result c = small c.args.n c.if-n.false

pub overflow_sub-result : goal.overflow_sub-result
overflow_sub-result c = rw (fits c.args.n (small c.args.n c.if-n.false)) (pow_pos c.args.n)

pub returns : goal.returns
returns c = rw (fits c.args.n (small c.args.n c.if-n.false), c.if-n.false)
