-- `envelope::norm_ok` meets its contract: its tests are the definition's.
use Rattle.checked.specs.Each.{every}
use Rattle.checked.proofs.Each.{◌&&≡◌}
use Rattle.envelope.specs.Refusals.{norm_ok}
use Rattle.envelope.proofs.norm_ok.Goals as goal

pub returns : goal.returns
unfolding norm_ok every
returns c = c.all_finite-a.ensures &&≡ c.all_above_zero-b.ensures
