-- `stopping::step` meets its contract, axis by axis.
use Prim.Native.Nat.{ℕ}
use mathlib.Core.Path.{◌≡◌, refl}
use native.Mathlib.Omega.{arith}
use lib.Ieee.{Float, binary64}
use Rattle.checked.specs.Each.{at}
use Rattle.checked.specs.Checked.{Checked, each}
use Rattle.checked.proofs.Told.{each_value, each_sound}
use Rattle.stopping.specs.Rule.{moved, step}
use Rattle.stopping.proofs.Told.{moved_tells}
use Rattle.stopping.proofs.step.Goals as goal

pub loop-j-init : goal.loop-j-init
unfolding each
loop-j-init c = (omega arith, refl, refl)

pub loop-j-preserved : goal.loop-j-preserved
unfolding moved
loop-j-preserved c = let l = c.loop-j in let s = c.args in
    let g : ℕ → Checked Float = λ (i : ℕ). moved binary64 s.dt (at s.v i) (at s.p i) in
    (omega arith, each_value g s.p l.j l.r _ l.invariant.1 refl, each_sound g s.p l.j l.sound _ _ l.invariant.2 c.finite-sound.ensures refl (moved_tells binary64 s.dt (at s.v l.j) (at s.p l.j)))

pub returns : goal.returns
unfolding step
returns c = let l = c.loop-j in let s = c.args in
    let e : l.j ≡ s.n = omega arith in
    rw (l.invariant.1, l.invariant.2, e)
