-- `lictor::lictor_push` meets its contract: its entry gives what the rule says.
use Rattle.lictor.proofs.lictor_push.Goals as goal

pub returns : goal.returns
returns c = rw c.pushed-next.ensures
