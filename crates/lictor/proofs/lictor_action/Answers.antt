-- `lictor::lictor_action` meets its contract: its entry gives what the rule says.
use Rattle.lictor.proofs.lictor_action.Goals as goal

pub returns : goal.returns
returns c = (rw c.action-found.ensures, rw (← c.action-found.ensures) c.set_row.ensures)
