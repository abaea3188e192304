-- What is known of w where none of the tests that make `net` or `path` 0.0 holds.
use Prim.Native.Nat.{ℕ, ◌≤◌}
use mathlib.Core.Path.{◌≡◌}
use mathlib.Core.Bool.{false, ◌||◌}
use native.Mathlib.Omega.{arith}
use borrow.Author.Tests.{ltb-false, eqb-false}
use lib.Dec.{eqb, ltb}
use Rattle.checked.proofs.Each.{neither}

pub net_range : (w len : ℕ) → eqb w 0 || ltb 32 w || ltb len w ≡ false → (1 ≤ w) × (w ≤ 32)
net_range w len e =
    let h = neither (eqb w 0) (ltb 32 w) (neither (eqb w 0 || ltb 32 w) (ltb len w) e).0 in
    let some : w ≡ 0 → ⊥ = eqb-false w 0 h.0 in
    let most : w ≤ 32 = ltb-false 32 w h.1 in
    (omega (arith, some), most)

pub path_range : (w len : ℕ) → ltb w 2 || ltb 32 w || ltb len w ≡ false → (2 ≤ w) × (w ≤ 32)
path_range w len e =
    let h = neither (ltb w 2) (ltb 32 w) (neither (ltb w 2 || ltb 32 w) (ltb len w) e).0 in
    (ltb-false w 2 h.0, ltb-false 32 w h.1)
