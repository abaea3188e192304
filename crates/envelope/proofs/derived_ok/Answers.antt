-- `envelope::derived_ok` meets its contract: its tests are the definition's.
use Rattle.checked.specs.Each.{every}
use Rattle.checked.proofs.Each.{◌&&≡◌}
use Rattle.envelope.specs.Refusals.{derived_ok}
use Rattle.envelope.proofs.derived_ok.Goals as goal

pub returns : goal.returns
unfolding derived_ok every
returns c =
    let f = c in
    let e = f in
    let d = e in
    let s = d in
    s.scalars_ok-a.ensures &&≡ d.all_finite-b.ensures &&≡ e.all_finite-c.ensures &&≡ f.all_finite-e.ensures &&≡ c.ordered-f.ensures
