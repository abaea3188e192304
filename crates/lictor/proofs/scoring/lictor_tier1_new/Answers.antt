-- `lictor::scoring::lictor_tier1_new` meets its contract: it lays out a new state.
use Rattle.lictor.proofs.Alike.{laid_alike}
use Rattle.lictor.proofs.scoring.lictor_tier1_new.Goals as goal

pub returns : goal.returns
returns c = laid_alike c.new-rt.ensures (record { rows = c.put_chunk.ensures.0; header = c.put_chunk.ensures.1; trail = c.put_trail.ensures.0; samples = c.put_trail.ensures.1; held = c.put_held.ensures.0; kept = c.put_held.ensures.1 })
