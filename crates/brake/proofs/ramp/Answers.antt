-- `brake::ramp` meets its contract: its tests tell of each number on the way.
use mathlib.Core.Path.{◌≡◌}
use Prim.Native.Nat.{min}
use lib.ListN.{length}
use lib.Ieee.{binary64, of_bits}
use Rattle.fmath.specs.Norm.{norm}
use Rattle.brake.specs.Rule.{ramp}
use Rattle.brake.proofs.Told.{ramp_tells}
use Rattle.brake.proofs.ramp.Goals as goal

pub returns : goal.returns
unfolding ramp of_bits
returns c =
    let s = c.args in
    let m : c.magnitude-s.result ≡ (norm binary64 s.vel.now (min s.n (length s.vel.now))).value = rw (← c.fewer.ensures) c.magnitude-s.ensures in
    rw (c.finite-2.ensures, c.finite.ensures, c.max-value.ensures, m, ramp_tells binary64 s.a_max s.dt s.vel.now s.n)
