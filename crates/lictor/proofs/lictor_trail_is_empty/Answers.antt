-- `lictor::lictor_trail_is_empty` meets its contract: it hands on the answer of its entry.
use Rattle.lictor.proofs.Alike.{emptiness_alike, is_empty_alike}
use Rattle.lictor.proofs.lictor_trail_is_empty.Goals as goal

pub returns : goal.returns
returns c = emptiness_alike (is_empty_alike c.is_empty-said.ensures c.trail_of-t.ensures) c.put_emptiness.ensures
