-- `tier1::one_tick` meets its contract: refused by what is lent, refused by a computed number, or passed.
use mathlib.Core.Bool.{not}
use mathlib.Core.Path.{refl, ap, ◌∙◌}
use borrow.Author.Tests.{not-true, not-false}
use lib.Ieee.{binary64}
use Rattle.refusal.specs.Chain.{number_is}
use Rattle.conformal.specs.Of.{tables}
use Rattle.envelope.proofs.Accepted.{compiled_judged, compiled_derived}
use Rattle.tier1.specs.Of.{out_of, manifest_of}
use Rattle.tier1.proofs.Ready.{narrow, new_fits, before_fits}
use Rattle.tier1.proofs.Ticks.{manifest_is, lent_refused, not_sound, passes}
use Rattle.tier1.proofs.one_tick.Goals as goal

pub returns-then-number-ne0 : goal.returns-then-number-ne0
returns-then-number-ne0 c = let g = c.args in c.unchanged.ensures ∙ ap out_of (lent_refused binary64 g.c (tables g.center.now g.scale.now) g.pos.now g.ext.now g.there g.k g.rows.now g.rt g.sc _ (c.number_of-number.ensures ∙ number_is (c.features_refusal-judged.ensures _ (compiled_judged c.compile-compiled.ensures))) c.if-number-ne0.true refl)

pub held_after-next-requires : goal.held_after-next-requires
unfolding manifest_of
held_after-next-requires c =
    let g = c.args in
    let e = c.number_of-number.ensures ∙ number_is (c.features_refusal-judged.ensures _ (compiled_judged c.compile-compiled.ensures)) in
    let z = c.if-number-ne0.false in
    rw (manifest_is binary64 g.c c.manifest_of-m.ensures (compiled_derived c.compile-compiled.ensures)) (
      narrow binary64 g.c (tables g.center.now g.scale.now) g.pos.now g.ext.now g.there g.k g.rows.now g.rt g.sc e z,
      new_fits binary64 g.c (tables g.center.now g.scale.now) g.pos.now g.ext.now g.there g.k g.rows.now g.rt g.sc e z,
      before_fits binary64 g.c (tables g.center.now g.scale.now) g.pos.now g.ext.now g.there g.k g.rows.now g.rt g.sc e z,
    )

pub returns-then-not-next-all : goal.returns-then-not-next-all
returns-then-not-next-all c =
    let g = c.args in
    c.unchanged-then-not-next-all.ensures
    ∙ ap out_of (not_sound binary64 g.c (tables g.center.now g.scale.now) g.pos.now g.ext.now g.there g.k g.rows.now g.rt g.sc (c.number_of-number.ensures ∙ number_is (c.features_refusal-judged.ensures _ (compiled_judged c.compile-compiled.ensures))) c.if-number-ne0.false (manifest_is binary64 g.c c.manifest_of-m.ensures (compiled_derived c.compile-compiled.ensures)) c.held_after-next.ensures c.twelve-all.ensures (not-true _ (ap not c.if-not-next-all.true)))

pub returns : goal.returns
returns c =
    let g = c.args in
    passes binary64 g.c (tables g.center.now g.scale.now) g.pos.now g.ext.now g.there g.k g.rows.now g.rt g.sc (c.number_of-number.ensures ∙ number_is (c.features_refusal-judged.ensures _ (compiled_judged c.compile-compiled.ensures))) c.if-number-ne0.false (manifest_is binary64 g.c c.manifest_of-m.ensures (compiled_derived c.compile-compiled.ensures)) c.held_after-next.ensures c.twelve-all.ensures (not-false _ (ap not c.if-not-next-all.false)) c.of-refusal.ensures
