-- `Window::pushed` meets its contract: to drop the top bit before the shift is to keep 64 digits after it.
use Prim.Native.Nat.{ℕ, ◌+◌, ◌*◌, ◌%◌, ◌^◌, ◌<◌}
use mathlib.Core.Path.{◌≡◌, refl, sym, ap, ◌∙◌}
use mathlib.Core.Bool.{Bool, true, false}
use native.Mathlib.Omega.{arith}
use lib.Bits.{bit_and}
use lib.Dec.{lit<}
use mir.Val.{bool_byte}
use Rattle.window.specs.Rule.{flag}
use Rattle.window.specs.Of.{pushed_of}
use Rattle.window.specs.declared.Window.{Window}
use Rattle.window.proofs.Shift.{shift_keeps}
use Rattle.window.proofs.Window.pushed.Goals as goal

digit : (h : Bool) → bool_byte h ≡ flag h
digit true = refl
digit false = refl

digit-small : (h : Bool) → bool_byte h < 2
digit-small true = lit< tt
digit-small false = lit< tt

made : (w : Window) (h : Bool) (m : ℕ) → ◌≡◌ {A = Window} (record { bits = bit_and (w.bits % 2 ^ 63 * 2 + bool_byte h) m }) (pushed_of w h m)
made w h m = ap (λ (x : ℕ). record { bits = bit_and x m }) (ap (λ (x : ℕ). w.bits % 2 ^ 63 * 2 + x) (digit h) ∙ sym (shift_keeps 63 w.bits h))

pub overflow_add-result : goal.overflow_add-result
overflow_add-result c = omega (arith, digit-small c.args.hit)

pub returns : goal.returns
returns c = made c.args.self c.args.hit c.args.mask
