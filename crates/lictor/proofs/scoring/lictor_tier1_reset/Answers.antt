-- `lictor::scoring::lictor_tier1_reset` meets its contract: it hands on the answer of its entry.
use Rattle.lictor.proofs.Alike.{cleared_alike, reset_alike}
use Rattle.lictor.proofs.scoring.lictor_tier1_reset.Goals as goal

pub returns : goal.returns
returns c = cleared_alike c.state_fits-fits.ensures (reset_alike c.reset-a.ensures c.state_of-rt.ensures) c.put_cleared.ensures
