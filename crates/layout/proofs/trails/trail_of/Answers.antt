-- `layout::trails::trail_of` meets its contract: each part is what its own function gives.
use Rattle.layout.specs.Trail.{trail_of}
use Rattle.layout.proofs.trails.trail_of.Goals as goal

pub returns : goal.returns
unfolding trail_of
returns c = rw (c.to_u8-head.ensures, c.to_u8-len.ensures)
