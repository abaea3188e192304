-- `fmath::put` meets its contract: the loop puts one number a turn and keeps the length.
use Prim.Native.Nat.{min}
use mathlib.Core.Path.{refl, ap, ◌∙◌}
use native.Mathlib.Nat.{le_antisymm}
use native.Mathlib.Omega.{arith}
use lib.ListN.{length-set}
use Rattle.checked.specs.Each.{at, over}
use Rattle.checked.proofs.Each.{over_more}
use Rattle.fmath.proofs.put.Goals as goal

pub loop-i-init : goal.loop-i-init
unfolding over
loop-i-init c = let e = c.fewer-count.ensures in let d = c.fewer-there.ensures in record {
  enough = omega arith;
  room = omega arith;
  same = refl;
  so_far = refl;
}

pub loop-i-preserved : goal.loop-i-preserved
loop-i-preserved c = let l = c in let v = l.loop-i.invariant in record {
  enough = v.enough;
  room = v.room;
  same = length-set l.loop-i.out l.loop-i.i _ ∙ v.same;
  so_far = over_more _ _ _ _ _ v.so_far refl;
}

pub shape_of-out : goal.shape_of-out
shape_of-out c = c.loop-i.invariant.same

pub returns : goal.returns
returns c =
    let l = c.loop-i in
    let first = c.fewer-there.ensures in
    let g = c.args in
    l.invariant.so_far ∙ ap (over (at g.from.now) g.out.now) (le_antisymm l.auto.i-end c.loop-i-test.false ∙ c.fewer-count.ensures ∙ ap (min g.n) first)
