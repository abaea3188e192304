-- `tier1::features` meets its contract: what is found makes the whole answer.
use lib.Ieee.{binary64}
use Rattle.conformal.specs.Of.{tables}
use Rattle.tier1.proofs.Ticks.{refused_from, passed_from}
use Rattle.tier1.proofs.features.Goals as goal

pub returns-then-refusal-ne0 : goal.returns-then-refusal-ne0
returns-then-refusal-ne0 c = let g = c.args in refused_from binary64 g.c (tables g.center.now g.scale.now) g.pos.now g.ext.now g.there g.k g.rows.now g.rt g.sc c.one_tick-a.ensures c.if-refusal-ne0.true

pub returns : goal.returns
returns c = let g = c.args in passed_from binary64 g.c (tables g.center.now g.scale.now) g.pos.now g.ext.now g.there g.k g.rows.now g.rt g.sc c.one_tick-a.ensures c.if-refusal-ne0.false c.prev_after-prev.ensures c.passed.ensures
