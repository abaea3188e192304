-- `tier1::held::overlap` meets its contract, by the tests that led to each answer.
use mathlib.Core.Bool.{not}
use mathlib.Core.Path.{ap}
use borrow.Author.Tests.{not-true, not-false}
use Rattle.tier1.proofs.Meeting.{apart, all_past, shares}
use Rattle.tier1.proofs.held.overlap.Goals as goal

pub returns-then-not-k-d : goal.returns-then-not-k-d
returns-then-not-k-d c = let g = c.args in apart g.k g.t g.h g.d (not-true _ (ap not c.if-not-k-d.true))

pub returns-then-k-s : goal.returns-then-k-s
returns-then-k-s c = let g = c.args in all_past g.k g.t g.h g.d (not-false _ (ap not c.if-not-k-d.false)) c.if-k-s.true

pub returns : goal.returns
returns c = let g = c.args in shares g.k g.t g.h g.d (not-false _ (ap not c.if-not-k-d.false)) c.fewer.ensures
