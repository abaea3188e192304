-- `stopping::ramp` meets its contract.
use lib.Ieee.{binary64, of_bits}
use Rattle.stopping.specs.Rule.{ramp}
use Rattle.stopping.proofs.Told.{ramp_tells}
use Rattle.stopping.proofs.ramp.Goals as goal

pub returns : goal.returns
unfolding ramp of_bits
returns c =
    let s = c.args in
    rw (c.finite-2.ensures, c.finite.ensures, ramp_tells binary64 s.a s.s)
