-- `tier1::held::acm_neg` meets its contract: one test, of the mean.
use borrow.Author.Tests.{le-leb}
use lib.Ieee.{binary64}
use Rattle.tier1.proofs.Found.{is_there, acm_is}
use Rattle.tier1.proofs.held.acm_neg.Goals as goal

pub returns : goal.returns
returns c =
    let g = c.args in
    is_there _ (le-leb 2 g.h c.if-h-lt2.false) (acm_is binary64 g.m g.b.now g.h c.step_lengths-s.ensures c.count.ensures c.finite-sound.ensures)
