-- `envelope::scalars_ok` meets its contract: its tests are the definition's.
use Rattle.checked.specs.Each.{every}
use Rattle.checked.proofs.Each.{◌&&≡◌}
use Rattle.envelope.specs.Refusals.{scalars_ok}
use Rattle.envelope.proofs.scalars_ok.Goals as goal

pub returns : goal.returns
unfolding scalars_ok every
returns c =
    let b = c in
    b.finite-a.ensures &&≡ b.finite-b.ensures &&≡ c.finite-c.ensures &&≡ c.finite-e.ensures &&≡ c.finite-f.ensures
