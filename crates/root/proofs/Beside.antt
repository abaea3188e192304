-- What is left beside the square of a number that is worked out in two parts, a * 2 ^ 21 + b. Each step fits into 64 digits, so that a difference that wraps
-- shows itself by its size. Assumes nothing of a and b but their sizes.
use Rattle.std.proofs.Common.{◌≡◌, ℕ, ◌+◌, ◌-◌, ◌*◌, ◌%◌, ◌^◌, ◌<◌, ◌≤◌, sym, ap, ◌∙◌, mul_assoc, mul_comm, add-mul, mul-le-mul, mul-add, mul_right_comm, arith}

square_parts : (a b : ℕ) → (a * 2 ^ 21 + b) * (a * 2 ^ 21 + b) ≡ a * a * 2 ^ 42 + a * b * 2 ^ 22 + b * b
square_parts a b =
    let h = a * 2 ^ 21 in
    let p : (h + b) * (h + b) ≡ h * (h + b) + b * (h + b) = add-mul h b (h + b) in
    let q : h * (h + b) ≡ h * h + h * b = mul-add h h b in
    let r : b * (h + b) ≡ b * h + b * b = mul-add b h b in
    let s : h * h ≡ a * a * 2 ^ 21 * 2 ^ 21 = sym (mul_assoc h a (2 ^ 21)) ∙ ap (λ (y : ℕ). y * 2 ^ 21) (mul_right_comm a (2 ^ 21) a) in
    let t : h * b ≡ a * b * 2 ^ 21 = mul_right_comm a (2 ^ 21) b in
    let u : b * h ≡ h * b = mul_comm b h in
    omega arith

-- w and what a leaves of it, then what a and b leave, then what b leaves
pub beside : (w a b second rest : ℕ) → a < 2 ^ 32 → b < 2 ^ 29 → a * a ≤ w → w - a * a < 2 ^ 40 → (second + a * b) % 2 ^ 64 ≡ (w - a * a) * 2 ^ 20 → second < 2 ^ 40
    → (rest + b * b) % 2 ^ 64 ≡ second * 2 ^ 22 → rest < 2 ^ 63 → (a * 2 ^ 21 + b) * (a * 2 ^ 21 + b) + rest ≡ w * 2 ^ 42
beside w a b second rest A B f s e t g r =
    let x : a ≤ 2 ^ 32 - 1 = omega arith in
    let y : b ≤ 2 ^ 29 - 1 = omega arith in
    let m = mul-le-mul x y in
    let n = mul-le-mul y y in
    let p = square_parts a b in
    let q : second + a * b ≡ (w - a * a) * 2 ^ 20 = omega arith in
    let u : rest + b * b ≡ second * 2 ^ 22 = omega arith in
    omega arith
