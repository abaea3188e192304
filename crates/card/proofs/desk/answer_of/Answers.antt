-- `card::desk::answer_of` meets its contract: by what the forecast answered.
use Rattle.card.specs.Desk.{answer_for}
use Rattle.card.proofs.desk.answer_of.Goals as goal

pub returns-in-Ok : goal.returns-in-Ok
unfolding answer_for
returns-in-Ok c = rw (c.in-Ok.is, c.pattern.ensures, c.pattern-in-Ok.ensures)

pub returns-in-Err : goal.returns-in-Err
unfolding answer_for
returns-in-Err c = rw (c.in-Err.is, c.written.ensures)
