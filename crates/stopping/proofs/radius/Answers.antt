-- `stopping::radius` meets its contract: its tests tell of each number on the way.
use mathlib.Core.Path.{◌≡◌}
use lib.Ieee.{binary64}
use Rattle.fmath.specs.Norm.{norm}
use Rattle.stopping.specs.Rule.{radius}
use Rattle.stopping.proofs.Told.{radius_tells}
use Rattle.stopping.proofs.radius.Goals as goal

pub returns : goal.returns
unfolding radius
returns c = let s = c.args in
    let m : c.magnitude-s.result ≡ (norm binary64 s.v s.n).value = c.magnitude-s.ensures in
    rw (c.finite.ensures, c.d_stop-d.ensures, m, radius_tells binary64 s.arm.brake s.arm.a_max s.arm.j_max s.react s.v s.n)
