-- `layout::config::walls_of` meets its contract: each part is what its own function gives.
use Rattle.layout.specs.Config.{walls_of}
use Rattle.layout.proofs.config.walls_of.Goals as goal

pub returns : goal.returns
unfolding walls_of
returns c = rw (c.part-hi.ensures, c.part-lo.ensures)
