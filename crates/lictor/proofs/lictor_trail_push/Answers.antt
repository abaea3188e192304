-- `lictor::lictor_trail_push` meets its contract: it hands on the answer of its entry.
use Rattle.lictor.proofs.Alike.{recorded_alike, push_alike}
use Rattle.lictor.proofs.lictor_trail_push.Goals as goal

pub returns : goal.returns
returns c = let s = c.args in recorded_alike (push_alike s.p.now s.d c.push-pushed.ensures c.trail_of-t.ensures) c.put_recorded.ensures
