-- `workspace::some_beyond` meets its contract: from the eighth axis and the last coordinate on none lies beyond, nor one without a box, and the loop keeps the answer so far.
use Prim.Native.Nat.{min}
use mathlib.Core.Path.{◌≡◌, sym, ap, ◌∙◌}
use native.Mathlib.Omega.{arith}
use borrow.Author.Rules.{rules}
use lib.ListN.{length}
use Rattle.checked.specs.Each.{some}
use Rattle.checked.proofs.Each.{some_more}
use Rattle.workspace.specs.Rule.{beyond}
use Rattle.workspace.specs.Of.{walls_in}
use Rattle.workspace.proofs.Shapes.{boxed_from}
use Rattle.workspace.proofs.Gaps.{some_beyond_is, none_beyond_before}
use Rattle.workspace.proofs.some_beyond.Goals as goal

pub loop-j-init : goal.loop-j-init
loop-j-init c =
    let s = c.args in
    record {
      there = omega (arith, c.fewer-m.ensures, c.fewer.ensures);
      narrow = omega (arith, c.fewer-m.ensures, c.fewer.ensures);
      so_far = λ shape h. sym (none_beyond_before (walls_in shape s.b) s.a.now c.fewer-j.result (omega (arith, h, c.fewer-j.ensures)));
    }

pub loop-j-preserved : goal.loop-j-preserved
loop-j-preserved c =
    let l = c.loop-j in
    let s = c.args in
    record { there = l.invariant.there; narrow = l.invariant.narrow; so_far = λ shape h. some_more (beyond (walls_in shape s.b) s.a.now) l.j _ _ (l.invariant.so_far shape h) (rw (boxed_from shape l.j (omega (arith, h, l.auto.j, c.fewer-j.ensures, c.loop-j-test.true)))) }

pub returns : goal.returns
returns c =
    let l = c.loop-j in
    let s = c.args in
    let e : l.j ≡ min s.n (min (length s.a.now) 8) = omega (arith, c.fewer-m.ensures, c.fewer.ensures, c.fewer-j.ensures) in
    λ shape h. l.invariant.so_far shape h ∙ ap (some (beyond (walls_in shape s.b) s.a.now)) e ∙ some_beyond_is (walls_in shape s.b) s.a.now s.n (search rules) (search rules)
