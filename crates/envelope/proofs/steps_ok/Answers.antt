-- `envelope::steps_ok` meets its contract: its tests are the definition's.
use Rattle.checked.specs.Each.{every}
use Rattle.envelope.specs.Refusals.{steps_ok}
use Rattle.envelope.proofs.steps_ok.Goals as goal

pub returns : goal.returns
unfolding steps_ok every
returns c = rw c.counts_ok-a.ensures
