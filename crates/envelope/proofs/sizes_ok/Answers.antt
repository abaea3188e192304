-- `envelope::sizes_ok` meets its contract: its tests are the definition's.
use Rattle.checked.specs.Each.{every}
use Rattle.envelope.specs.Refusals.{sizes_ok}
use Rattle.envelope.proofs.sizes_ok.Goals as goal

pub returns : goal.returns
unfolding sizes_ok every
returns c = rw c.sizes_ok-k.ensures
