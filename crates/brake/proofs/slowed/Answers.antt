-- `brake::slowed` meets its contract, coordinate by coordinate.
use mathlib.Core.Path.{◌≡◌, refl}
use native.Mathlib.Omega.{arith}
use lib.ListN.{replicate}
use lib.Ieee.{binary64, of_bits}
use Rattle.checked.specs.Finite.{+0}
use Rattle.checked.specs.Checked.{each}
use Rattle.checked.proofs.Told.{each_value, each_sound}
use Rattle.brake.specs.Rule.{scaled_at, slowed}
use Rattle.brake.proofs.Told.{scaled_tells}
use Rattle.brake.proofs.slowed.Goals as goal

pub loop-j-init : goal.loop-j-init
unfolding each of_bits
loop-j-init c = (omega arith, refl, refl)

pub loop-j-preserved : goal.loop-j-preserved
loop-j-preserved c = let l = c.loop-j in let s = c.args in
    (omega arith, each_value (scaled_at binary64 s.k s.vel.now) (replicate 8 +0) l.j l.at _ l.invariant.1 c.scaled-x.ensures, each_sound (scaled_at binary64 s.k s.vel.now) (replicate 8 +0) l.j l.sound _ _ l.invariant.2 c.finite-sound.ensures c.scaled-x.ensures (scaled_tells binary64 s.k s.vel.now l.j))

pub returns : goal.returns
unfolding slowed
returns c = let l = c.loop-j in let s = c.args in
    let e : l.j ≡ s.n = omega arith in
    rw (l.invariant.1, l.invariant.2, e)
