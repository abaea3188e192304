-- `envelope::walls_finite` meets its contract: a ninth wall is not there, and the loop keeps the answer so far.
use mathlib.Core.Path.{◌≡◌, refl, ap, ◌∙◌}
use mathlib.Core.Bool.{Bool, not, ◌||◌}
use native.Mathlib.Omega.{arith}
use borrow.Author.Rules.{rules}
use lib.Dec.{leb}
use Rattle.std.proofs.lemmas.List.{get_or-take, length-take}
use Rattle.checked.specs.Each.{all}
use Rattle.checked.specs.Finite.{finite}
use Rattle.checked.proofs.Each.{all_more}
use Rattle.envelope.proofs.Walls.{walls_told, walls_missing}
use Rattle.envelope.proofs.walls_finite.Goals as goal

pub returns-then-n-gt8 : goal.returns-then-n-gt8
returns-then-n-gt8 c = let s = c.args in walls_missing s.shape s.walls s.n (search rules) (omega arith)

pub loop-i-init : goal.loop-i-init
unfolding all
loop-i-init c = refl

pub loop-i-preserved : goal.loop-i-preserved
loop-i-preserved c =
    let l = c.loop-i in
    let s = c.args in
    let same = ap finite (get_or-take s.n s.walls _ _ (omega (arith, length-take s.n s.walls))) in
    all_more _ l.i l.ok _ l.invariant (ap (λ (b : Bool). not (leb c.first_boxed-first.result l.i) || b) (c.finite.ensures ∙ same))

pub returns : goal.returns
returns c =
    let l = c.loop-i in
    let s = c.args in
    let e : l.i ≡ s.n = omega (arith, length-take s.n s.walls) in
    l.invariant ∙ ap (all _) e ∙ walls_told s.shape c.first_boxed-first.ensures s.n s.walls
