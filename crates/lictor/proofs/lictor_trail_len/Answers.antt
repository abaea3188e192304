-- `lictor::lictor_trail_len` meets its contract: it hands on the answer of its entry.
use Rattle.lictor.proofs.Alike.{count_alike, len_alike}
use Rattle.lictor.proofs.lictor_trail_len.Goals as goal

pub returns : goal.returns
returns c = count_alike (len_alike c.len-held.ensures c.trail_of-t.ensures) c.put_count.ensures
