-- `layout::scores::put_scores` meets its contract: by evaluation.
use mathlib.Core.Path.{refl}
use Rattle.checked.specs.Each.{table}
use Rattle.layout.specs.Scores.{scores_flat}
use Rattle.layout.proofs.scores.put_scores.Goals as goal

pub returns : goal.returns
unfolding scores_flat table
returns c = (refl, refl)
