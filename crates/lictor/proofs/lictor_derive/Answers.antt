-- `lictor::lictor_derive` meets its contract: it hands on the answer of its entry.
use mathlib.Core.Path.{◌∙◌}
use Rattle.refusal.specs.Chain.{number_is}
use Rattle.lictor.proofs.Alike.{derived_alike, fitting_alike, compile_alike}
use Rattle.conformal.specs.Of.{tables}
use Rattle.envelope.proofs.Accepted.{compiled_judged, compiled_derived}
use Rattle.lictor.proofs.lictor_derive.Goals as goal

pub returns : goal.returns
returns c =
    let k = c in
    let s = k.args in
    let e = compile_alike (tables s.center.now s.scale.now) k.compile-compiled.ensures k.config_of-c.ensures in
    derived_alike (fitting_alike c.fitting-number.ensures k.counts_fit-fits.ensures (c.number_of.ensures ∙ number_is (compiled_judged e))) (compiled_derived e) c.put_derived.ensures
