-- `envelope::limits_ok` meets its contract: its tests are the definition's.
use Rattle.checked.specs.Each.{every}
use Rattle.checked.proofs.Each.{◌&&≡◌}
use Rattle.envelope.specs.Refusals.{limits_ok}
use Rattle.envelope.proofs.limits_ok.Goals as goal

pub returns : goal.returns
unfolding limits_ok every
returns c =
    let j = c in
    let v = j in
    v.above_zero-a.ensures &&≡ v.above_zero-b.ensures &&≡ j.above_zero-c.ensures &&≡ j.above_zero-d.ensures
    &&≡ c.above_zero-e.ensures
    &&≡ c.not_below_zero-f.ensures
