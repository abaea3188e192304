-- `window::path_of` meets its contract: the loop keeps the sum of the steps so far, oldest first.
use Prim.Native.Nat.{ℕ, ◌-◌}
use mathlib.Core.Path.{◌≡◌, refl, ap, ◌∙◌}
use native.Mathlib.Omega.{arith}
use lib.Ieee.{binary64, of_bits}
use Rattle.checked.specs.Checked.{sum_from}
use Rattle.checked.specs.Finite.{+0}
use Rattle.checked.proofs.Sums.{sum_more}
use Rattle.window.specs.Rule.{step, path}
use Rattle.window.proofs.Ranges.{path_range}
use Rattle.window.proofs.path_of.Goals as goal

pub returns-then-w-len : goal.returns-then-w-len
unfolding path of_bits
returns-then-w-len c = rw c.if-w-len.true

pub overflow_sub-n : goal.overflow_sub-n
overflow_sub-n c = let r = path_range c.args.w c.args.len c.if-w-len.false in omega arith

pub loop-j-init : goal.loop-j-init
unfolding sum_from of_bits
loop-j-init c = refl

pub between-acc-requires : goal.between-acc-requires
between-acc-requires c =
    let r = path_range c.args.w c.args.len c.if-w-len.false in
    omega arith

pub loop-j-preserved : goal.loop-j-preserved
unfolding step
loop-j-preserved c =
    let a = c.args in
    sum_more binary64 +0 (step binary64 a.buf.now a.head a.d (a.w - 1)) c.loop-j.j _ _ c.loop-j.invariant c.between-acc.ensures

pub returns : goal.returns
unfolding path
returns c =
    let a = c.args in
    let all : c.loop-j.j ≡ a.w - 1 = omega arith in
    rw c.if-w-len.false (c.loop-j.invariant ∙ ap (λ (k : ℕ). (sum_from binary64 +0 (step binary64 a.buf.now a.head a.d (a.w - 1)) k).value) all)
