-- `workspace::shape_ok` meets its contract: by the shape.
use Rattle.checked.specs.Each.{every, every_from}
use Rattle.workspace.proofs.shape_ok.Goals as goal

pub returns-in-Disc : goal.returns-in-Disc
unfolding every every_from
returns-in-Disc c = rw (c.in-Disc.is, c.finite-a.ensures, c.finite-b.ensures, c.above_zero-c.ensures)
