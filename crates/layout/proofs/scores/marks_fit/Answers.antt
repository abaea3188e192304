-- `layout::scores::marks_fit` meets its contract: by evaluation.
use mathlib.Core.Path.{refl}
use Rattle.checked.specs.Each.{every, every_from}
use Rattle.layout.specs.Scores.{marks_fit}
use Rattle.layout.proofs.scores.marks_fit.Goals as goal

pub returns : goal.returns
unfolding marks_fit every every_from
returns c = refl
