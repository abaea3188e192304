-- `lictor_dist` meets its contract: it hands on the answer of `fmath::dist`.
use Rattle.lictor.proofs.Alike.{number_alike}
use Rattle.lictor.proofs.lictor_dist.Goals as goal

pub returns : goal.returns
returns c = number_alike c.dist.ensures c.put_number.ensures
