-- `envelope::features_ok` meets its contract: its tests are the definition's.
use Rattle.envelope.proofs.features_ok.Goals as goal

pub returns : goal.returns
returns c = rw c.features_ok-k.ensures
