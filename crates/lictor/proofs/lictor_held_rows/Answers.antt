-- `lictor::lictor_held_rows` meets its contract: its entry gives what the rule says.
use Rattle.lictor.proofs.lictor_held_rows.Goals as goal

pub returns : goal.returns
returns c = rw c.held_rows.ensures
