-- `conformal::numbers_ok` meets its contract: its three tests are the definition's.
use Rattle.checked.specs.Each.{every}
use Rattle.checked.proofs.Each.{◌&&≡◌}
use Rattle.conformal.specs.Refusals.{numbers_ok}
use Rattle.conformal.proofs.numbers_ok.Goals as goal

pub returns : goal.returns
unfolding numbers_ok every
returns c = c.finite-a.ensures &&≡ c.all_finite-b.ensures &&≡ c.all_above_zero-c.ensures
