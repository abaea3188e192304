-- `stopping::stop_distance` meets its contract: its tests tell of each number on the way.
use mathlib.Core.Path.{◌≡◌}
use lib.IntN.{pos}
use lib.Ieee.{binary64, of_int}
use Rattle.checked.specs.Checked.{times}
use Rattle.fmath.specs.Norm.{dist}
use Rattle.course.specs.Of.{state_of}
use Rattle.stopping.specs.Rule.{stop_distance}
use Rattle.stopping.proofs.Told.{stop_tells}
use Rattle.stopping.proofs.stop_distance.Goals as goal

pub returns : goal.returns
unfolding stop_distance
returns c =
    let w = c in
    let s = w.args in
    let m : c.distance.result ≡ (dist binary64 s.end.p s.start.p s.n).value = c.distance.ensures in
    rw (c.finite.ensures, m, c.radius-beyond.ensures, w.reaction-react.ensures, stop_tells binary64 s.arm (times binary64 (of_int binary64 (pos s.react_ticks)) s.arm.dt).value (state_of s.start) (state_of s.end) s.n)
