-- `fmath::root_of_squares` meets its contract: the loop keeps the sum so far.
use Prim.Native.Nat.{ℕ}
use mathlib.Core.Path.{refl, ap, ◌∙◌}
use native.Mathlib.Nat.{le_antisymm}
use lib.Ieee.{binary64, of_bits}
use Rattle.root.specs.Root.{root_of}
use Rattle.checked.specs.Finite.{+0}
use Rattle.checked.specs.Checked.{sum_from}
use Rattle.checked.proofs.Sums.{sum_more}
use Rattle.fmath.proofs.root_of_squares.Goals as goal

pub loop-j-init : goal.loop-j-init
unfolding sum_from of_bits
loop-j-init g c = λ h e. refl

pub loop-j-preserved : goal.loop-j-preserved
loop-j-preserved g c =
    let l = c.loop-j in
    λ h e. sum_more binary64 +0 h l.j _ _ (l.invariant h e) (e l.j _ c.loop-j-test.true c.side-d.ensures)

pub returns : goal.returns
returns g c =
    let l = c.loop-j in
    λ h e. c.sqrt.ensures ∙ ap (root_of binary64) (l.invariant h e ∙ ap (λ (k : ℕ). (sum_from binary64 +0 h k).value) (le_antisymm l.auto.j-end c.loop-j-test.false))
