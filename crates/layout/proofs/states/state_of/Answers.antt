-- `layout::states::state_of` meets its contract: each part is what its own function gives.
use Rattle.layout.specs.State.{state_of}
use Rattle.layout.proofs.states.state_of.Goals as goal

pub returns : goal.returns
unfolding state_of
returns c = rw (c.chunk_of-prev.ensures, c.trail_of-trail.ensures, c.to_u32-held_valid.ensures)
