-- `brake::slower` meets its contract: the factor, then each coordinate times it.
use Rattle.brake.specs.Rule.{slower}
use Rattle.brake.proofs.slower.Goals as goal

pub returns : goal.returns
unfolding slower
returns c = rw (c.slowed-r.ensures, c.ramp-k.ensures)
