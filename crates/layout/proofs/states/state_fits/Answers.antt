-- `layout::states::state_fits` meets its contract: the chunk's counts and its own.
use Rattle.checked.specs.Each.{every, every_from}
use Rattle.layout.specs.State.{state_fits}
use Rattle.layout.proofs.states.state_fits.Goals as goal

pub returns : goal.returns
unfolding state_fits every every_from
returns c = rw c.header_fits-chunk.ensures
