-- `card::desk::brake` meets its contract: each number is its pattern's.
use Rattle.card.specs.Desk.{brake_of}
use Rattle.card.proofs.desk.brake.Goals as goal

pub returns : goal.returns
unfolding brake_of
returns c = rw (c.float_of-dt.ensures, c.float_of-k_v.ensures, c.float_of-k_p.ensures)
