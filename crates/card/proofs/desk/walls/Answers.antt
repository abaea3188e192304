-- `card::desk::walls` meets its contract: each number is its pattern's.
use Rattle.card.specs.Desk.{walls_of}
use Rattle.card.proofs.desk.walls.Goals as goal

pub returns : goal.returns
unfolding walls_of
returns c = rw (c.float_of-hi.ensures, c.float_of-lo.ensures)
