-- `workspace::around_all` meets its contract: two axes a turn, of which the two sums tell.
use Prim.Native.Nat.{ℕ, ◌+◌, ◌*◌}
use mathlib.Core.Path.{◌∙◌}
use native.Mathlib.Omega.{arith}
use borrow.Author.Rules.{rules}
use lib.ListN.{set, length-set}
use lib.Ieee.{binary64}
use Rattle.checked.proofs.Each.{◌&&≡◌}
use Rattle.checked.proofs.Absorbing.{fine_add_left, fine_add_right}
use Rattle.workspace.specs.Rule.{gap}
use Rattle.workspace.specs.Of.{walls_of}
use Rattle.workspace.proofs.Gaps.{near_more, sums_tell}
use Rattle.workspace.proofs.around_all.Goals as goal

pub loop-i-init : goal.loop-i-init
loop-i-init c =
    record {
      wide = search rules;
      so_far = (λ j b. absurd (omega arith));
      told = λ t j b. absurd (omega arith);
    }

pub loop-i-preserved : goal.loop-i-preserved
loop-i-preserved c =
    let l = c.loop-i in
    let s = c.args in
    let one = c.beside-one in
    let other = c.beside-other in
    let m = 2 * l.i in
    let near = near_more (λ (j : ℕ). (gap binary64 (walls_of s.w) s.p j).value) l.near m one.result.near other.result.near (omega (arith, l.invariant.wide)) l.invariant.so_far one.ensures.0 other.ensures.0 in
    let told = sums_tell binary64 (walls_of s.w) s.p m l.even l.odd one.result.sum other.result.sum l.invariant.told one.ensures.1 other.ensures.1 in record {
      wide = length-set (set l.near m one.result.near) (m + 1) other.result.near ∙ length-set l.near m one.result.near ∙ l.invariant.wide;
      so_far = (λ j b. near j (omega arith));
      told = λ t j b. told t j (omega arith);
    }

pub returns : goal.returns
returns c =
    let l = c.loop-i in
    ((λ j b. l.invariant.so_far j (omega arith)), λ t j b. l.invariant.told (fine_add_left binary64 l.even l.odd t &&≡ fine_add_right binary64 l.even l.odd t) j (omega arith))
