-- `conformal::sizes_ok` meets its contract: its tests are the definition's.
use Rattle.checked.specs.Each.{every}
use Rattle.conformal.specs.Refusals.{sizes_ok}
use Rattle.conformal.proofs.sizes_ok.Goals as goal

pub returns : goal.returns
unfolding sizes_ok every
returns c = rw c.counted_terms-terms.ensures
