-- `stopping::ease` meets its contract.
use lib.Ieee.{binary64, of_bits}
use Rattle.stopping.specs.Rule.{ease}
use Rattle.stopping.proofs.Told.{ease_tells}
use Rattle.stopping.proofs.ease.Goals as goal

pub returns : goal.returns
unfolding ease of_bits
returns c =
    let s = c.args in
    rw (c.finite-2.ensures, c.finite.ensures, ease_tells binary64 s.a s.j s.s)
