-- `root::guess::product` meets its contract: two numbers below 2 ^ 32 have a product below 2 ^ 64.
use Rattle.std.proofs.Common.{ℕ, ◌-◌, ◌*◌, ◌^◌, ◌<◌, ◌≤◌, mul-le-mul, arith}
use Rattle.root.proofs.guess.product.Goals as goal

small : (a b : ℕ) → a < 2 ^ 32 → b < 2 ^ 32 → a * b < 2 ^ 64
small a b h g =
    let x : a ≤ 2 ^ 32 - 1 = omega arith in
    let y : b ≤ 2 ^ 32 - 1 = omega arith in
    let m = mul-le-mul x y in
    omega arith

pub overflow_mul-result : goal.overflow_mul-result
overflow_mul-result c = let s = c.args in omega (arith, small s.a s.b (omega arith) (omega arith))
