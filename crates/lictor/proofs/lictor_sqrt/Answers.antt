-- `lictor_sqrt` meets its contract: it hands on the answer of `fmath::sqrt`.
use Rattle.lictor.proofs.Alike.{number_alike}
use Rattle.lictor.proofs.lictor_sqrt.Goals as goal

pub returns : goal.returns
returns c = number_alike c.sqrt.ensures c.put_number.ensures
