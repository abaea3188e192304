-- `lictor::lictor_mask` meets its contract: it hands on the answer of its entry.
use Rattle.lictor.proofs.Alike.{mask_alike}
use Rattle.lictor.proofs.lictor_mask.Goals as goal

pub returns : goal.returns
returns c = mask_alike c.mask.ensures c.put_mask.ensures
