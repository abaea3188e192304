-- `lictor_norm` meets its contract: it hands on the answer of `fmath::norm`.
use Rattle.lictor.proofs.Alike.{number_alike}
use Rattle.lictor.proofs.lictor_norm.Goals as goal

pub returns : goal.returns
returns c = number_alike c.norm.ensures c.put_number.ensures
