-- `layout::places::part` meets its contract: the slice that is copied is the part.
use mathlib.Core.Path.{◌∙◌}
use Rattle.layout.proofs.Listed.{part_listed}
use Rattle.layout.proofs.places.part.Goals as goal

pub returns : goal.returns
returns g c = let s = c.args in c.copy_from_slice.ensures.after ∙ part_listed s.l.now s.start g.row.N c.requires
