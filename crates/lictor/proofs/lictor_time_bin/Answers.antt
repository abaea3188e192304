-- `lictor::lictor_time_bin` meets its contract: it hands on the answer of its entry.
use Rattle.lictor.proofs.Alike.{bin_alike}
use Rattle.lictor.proofs.lictor_time_bin.Goals as goal

pub returns : goal.returns
returns c = bin_alike c.time_bin.ensures c.put_bin.ensures
