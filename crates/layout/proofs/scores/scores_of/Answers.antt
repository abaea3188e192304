-- `layout::scores::scores_of` meets its contract: each part is what its own function gives.
use Rattle.layout.specs.Scores.{scores_of}
use Rattle.layout.proofs.scores.scores_of.Goals as goal

pub returns : goal.returns
unfolding scores_of
returns c = rw (c.part-f.ensures, c.part-z.ensures, c.to_u32-valid.ensures, c.to_u32-fired.ensures)
