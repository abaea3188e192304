-- `envelope::box_ok` meets its contract: its tests are the definition's.
use Rattle.checked.specs.Each.{every}
use Rattle.checked.proofs.Each.{◌&&≡◌}
use Rattle.envelope.specs.Refusals.{box_ok}
use Rattle.envelope.proofs.box_ok.Goals as goal

pub returns : goal.returns
unfolding box_ok every
returns c = c.walls_finite-a.ensures &&≡ c.walls_finite-b.ensures
