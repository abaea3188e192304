-- `tier1::held::reach` meets its contract: one test, of the quotient.
use mathlib.Core.Path.{ap, sym, ◌∙◌}
use borrow.Author.Tests.{lt-ltb}
use lib.Dec.{ltb}
use lib.Ieee.{binary64}
use Rattle.tier1.proofs.Found.{is_there, reach_is}
use Rattle.tier1.proofs.held.reach.Goals as goal

pub returns-then-n-gt0 : goal.returns-then-n-gt0
returns-then-n-gt0 c =
    let g = c.args in
    is_there _ (ap (ltb 0) (sym c.box_dims-n.ensures) ∙ lt-ltb 0 _ c.if-n-gt0.true) (reach_is binary64 g.m g.pos.now g.b.now c.box_dims-n.ensures c.distance-far.ensures c.finite-sound.ensures)
