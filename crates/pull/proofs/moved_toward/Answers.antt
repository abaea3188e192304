-- `pull::moved_toward` meets its contract: one coordinate a turn, with one test of it.
use mathlib.Core.Path.{refl, ap, ◌∙◌}
use mathlib.Core.Bool.{Bool, ◌&&◌}
use native.Mathlib.Nat.{le_antisymm}
use lib.Ieee.{binary64, Float, Format, sub, mul}
use Rattle.checked.specs.Each.{at}
use Rattle.checked.specs.Finite.{finite}
use Rattle.checked.specs.Checked.{each}
use Rattle.checked.proofs.Absorbing.{fine_add_right, fine_mul_left}
use Rattle.checked.proofs.Told.{each_value, each_sound, Tells, implied, a_row}
use Rattle.pull.specs.Rule.{toward, towards}
use Rattle.pull.proofs.moved_toward.Goals as goal

-- a coordinate pulled towards another tells whether its numbers are finite
toward-tells : (f : Format) (s q x : Float) → Tells (toward f s q x)
unfolding toward
toward-tells f s q x =
    let d = sub f x q in
    let m = mul f d s in
    ap (λ (b : Bool). finite d && b) (implied _ _ (fine_add_right f q m)) ∙ implied _ _ (λ h. fine_mul_left f d s (fine_add_right f q m h))

pub loop-i-init : goal.loop-i-init
unfolding each
loop-i-init c = (refl, refl)

pub loop-i-preserved : goal.loop-i-preserved
unfolding toward
loop-i-preserved c =
    let l = c.loop-i in
    let g = c.args in
    let e = towards binary64 g.s g.q.now g.a in
    (each_value e g.a l.i _ _ l.invariant.0 refl, each_sound e g.a l.i _ _ _ l.invariant.1 c.finite-sound.ensures refl (toward-tells binary64 g.s (at g.q.now l.i) (at g.a l.i)))

pub returns : goal.returns
returns c = let l = c.loop-i in let e = le_antisymm l.auto.i-end c.loop-i-test.false in a_row _ (rw e at l.invariant.0) (rw e at l.invariant.1)
