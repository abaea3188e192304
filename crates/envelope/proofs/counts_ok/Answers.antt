-- `envelope::counts_ok` meets its contract: its tests are the definition's.
use Rattle.checked.specs.Each.{every}
use Rattle.envelope.specs.Refusals.{counts_ok}
use Rattle.envelope.proofs.counts_ok.Goals as goal

pub returns : goal.returns
unfolding counts_ok every
returns c = rw c.substeps_in-n.ensures
