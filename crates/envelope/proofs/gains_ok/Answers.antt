-- `envelope::gains_ok` meets its contract: its tests are the definition's.
use Rattle.checked.specs.Each.{every}
use Rattle.checked.proofs.Each.{◌&&≡◌}
use Rattle.envelope.specs.Refusals.{gains_ok}
use Rattle.envelope.proofs.gains_ok.Goals as goal

pub returns : goal.returns
unfolding gains_ok every
returns c = c.not_below_zero-a.ensures &&≡ c.above_zero-b.ensures &&≡ c.above_zero-c.ensures
