-- `brake::shorter` meets its contract: the factor, times dt, then each coordinate times it.
use Rattle.brake.specs.Rule.{shorter}
use Rattle.brake.proofs.shorter.Goals as goal

pub returns : goal.returns
unfolding shorter
returns c = rw (c.finite-fine.ensures, c.slowed-r.ensures, c.ramp-k.ensures)
