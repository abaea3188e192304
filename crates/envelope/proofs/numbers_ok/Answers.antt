-- `envelope::numbers_ok` meets its contract: its tests are the definition's.
use Rattle.checked.specs.Each.{every}
use Rattle.checked.proofs.Each.{◌&&≡◌}
use Rattle.envelope.specs.Refusals.{numbers_from}
use Rattle.envelope.proofs.numbers_ok.Goals as goal

pub returns : goal.returns
unfolding numbers_from every
returns c =
    let n = c in
    let l = n in
    l.limits_ok-e.ensures &&≡ n.brake_ok-f.ensures &&≡ n.zones_ok-g.ensures &&≡ n.norm_ok-h.ensures
    &&≡ c.shape_ok-i.ensures
    &&≡ c.box_ok-j.ensures
    &&≡ c.derived_ok-k.ensures
    &&≡ c.calibration_ok-l.ensures
