-- `conformal::scores_ok` meets its contract: its three tests are the definition's.
use Rattle.checked.specs.Each.{every}
use Rattle.checked.proofs.Each.{◌&&≡◌}
use Rattle.conformal.specs.Refusals.{scores_ok}
use Rattle.conformal.proofs.scores_ok.Goals as goal

pub returns : goal.returns
unfolding scores_ok every
returns c = c.all_finite-a.ensures &&≡ c.all_finite-b.ensures &&≡ c.not_nan-c.ensures
