-- `window::between` meets its contract: a part of 8 numbers from a slot's place is its sample.
use Prim.Native.Nat.{ℕ, ◌+◌, ◌-◌, ◌*◌}
use mathlib.Core.Path.{◌≡◌, ◌∙◌}
use mathlib.Core.List.{List}
use native.Mathlib.Omega.{arith}
use lib.Ieee.{Float, binary64}
use lib.ListN.{take, drop}
use Rattle.fmath.specs.Norm.{dist}
use Rattle.window.proofs.between.Goals as goal

eight : (x : ℕ) → x + 8 - x ≡ 8
eight x = omega arith

samples : (l : List Float) (s t n s' t' n' : ℕ) → s ≡ s' → t ≡ t' → n ≡ n'
    → (dist binary64 (take (s * 8 + 8 - s * 8) (drop (s * 8) l)) (take (t * 8 + 8 - t * 8) (drop (t * 8) l)) n).value ≡ (dist binary64 (take 8 (drop (s' * 8) l)) (take 8 (drop (t' * 8) l)) n').value
samples l s t n s' t' n' es et en = rw (eight (s * 8), eight (t * 8), es, et, en)

pub returns : goal.returns
returns c =
    let a = c.args in
    c.distance.ensures ∙ samples a.buf.now _ _ _ _ _ _ c.slot_back-a.ensures c.slot_back-b.ensures c.fewer.ensures
