-- `lictor::lictor_trail_clear` meets its contract: it hands on the answer of its entry.
use Rattle.lictor.proofs.Alike.{recorded_alike, clear_alike}
use Rattle.lictor.proofs.lictor_trail_clear.Goals as goal

pub returns : goal.returns
returns c = recorded_alike (clear_alike c.clear-cleared.ensures c.trail_of-t.ensures) c.put_recorded.ensures
