-- `layout::config::norm_of` meets its contract: each part is what its own function gives.
use Rattle.layout.specs.Config.{norm_of}
use Rattle.layout.proofs.config.norm_of.Goals as goal

pub returns : goal.returns
unfolding norm_of
returns c = rw (c.part-scale.ensures, c.part-center.ensures)
