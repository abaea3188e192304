-- `layout::config::zone_of` meets its contract: each channel beside the other.
use Rattle.layout.specs.Config.{zone_of}
use Rattle.layout.proofs.config.zone_of.Goals as goal

pub returns : goal.returns
unfolding zone_of
returns c = rw (c.channel-a1.ensures, c.channel-a0.ensures)
