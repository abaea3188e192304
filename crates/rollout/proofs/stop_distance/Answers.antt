-- `rollout::stop_distance` meets its contract: a sum tells of the distance in it.
use mathlib.Core.Path.{◌≡◌}
use lib.Ieee.{binary64, of_bits}
use Rattle.fmath.specs.Norm.{dist}
use Rattle.course.specs.Of.{state_of}
use Rattle.rollout.specs.Rule.{stop_distance}
use Rattle.rollout.proofs.Told.{stop_tells}
use Rattle.rollout.proofs.stop_distance.Goals as goal

pub returns : goal.returns
unfolding stop_distance of_bits
returns c =
    let s = c.args in
    let m : c.distance-value.result ≡ (dist binary64 s.end.p s.start.p s.n).value = c.distance-value.ensures in
    rw (c.finite-sound.ensures, m, stop_tells binary64 (state_of s.start) (state_of s.end) s.n)
