-- `workspace::walled` meets its contract: nothing is put past the eighth axis, and from the first axis that has a box on the loop puts one coordinate a turn.
use Prim.Native.Nat.{min}
use mathlib.Core.Path.{◌≡◌, ap, ◌∙◌}
use mathlib.Core.List.{List}
use native.Mathlib.Nat.{le_refl}
use native.Mathlib.Omega.{arith}
use borrow.Author.Rules.{rules}
use lib.Ieee.{Float}
use Rattle.checked.specs.Each.{at, over}
use Rattle.fmath.specs.Clamp.{clamped}
use Rattle.fmath.specs.declared.Sided.{Sided}
use Rattle.checked.proofs.Each.{over_more, over_keeps}
use Rattle.workspace.specs.declared.Shape.{Shape}
use Rattle.workspace.specs.Shape.{first_boxed}
use Rattle.workspace.specs.Rule.{inside_at}
use Rattle.workspace.specs.Of.{walls_in}
use Rattle.workspace.proofs.Shapes.{boxed_from}
use Rattle.workspace.proofs.Gaps.{walled_is, none_inside_before}
use Rattle.workspace.proofs.walled.Goals as goal

pub loop-j-init : goal.loop-j-init
loop-j-init c =
    let s = c.args in
    record {
      narrow = omega (arith, c.fewer-m.ensures);
      so_far = λ shape h. none_inside_before (walls_in shape s.b) s.a c.fewer-j.result (omega (arith, h, c.fewer-j.ensures));
    }

pub loop-j-preserved : goal.loop-j-preserved
loop-j-preserved c =
    let l = c.loop-j in
    let s = c.args in
    let here : (shape : Shape) → s.first ≡ first_boxed shape → at l.r l.j ≡ at s.a l.j = λ shape h. ap (λ (x : List Float). at x l.j) (l.invariant.so_far shape h) ∙ over_keeps (inside_at (walls_in shape s.b) s.a) s.a l.j l.j (le_refl l.j) in
    let put : (shape : Shape) → s.first ≡ first_boxed shape → c.clamp.result.value ≡ inside_at (walls_in shape s.b) s.a l.j = λ shape h. ap (λ (x : Sided). x.value) c.clamp.ensures ∙ ap (λ (x : Float). clamped x (at s.b.lo l.j) (at s.b.hi l.j)) (here shape h) ∙ rw (boxed_from shape l.j (omega (arith, h, l.auto.j, c.fewer-j.ensures, c.loop-j-test.true))) in
    record { narrow = l.invariant.narrow; so_far = λ shape h. over_more (inside_at (walls_in shape s.b) s.a) s.a l.r l.j _ (l.invariant.so_far shape h) (put shape h) }

pub returns : goal.returns
returns c =
    let l = c.loop-j in
    let s = c.args in
    let e : l.j ≡ min s.n 8 = omega (arith, c.fewer-m.ensures, c.fewer-j.ensures) in
    λ shape h. l.invariant.so_far shape h ∙ ap (over (inside_at (walls_in shape s.b) s.a) s.a) e ∙ walled_is (walls_in shape s.b) s.a s.n (search rules)
