-- `tier1::held_after` meets its contract: without a chunk those that are held, with one its own.
use mathlib.Core.Bool.{not}
use mathlib.Core.Path.{ap}
use borrow.Author.Tests.{not-true, not-false}
use lib.Ieee.{binary64}
use Rattle.tier1.proofs.Ticks.{no_chunk, chunk_held}
use Rattle.tier1.proofs.held_after.Goals as goal

pub returns-then-not-there : goal.returns-then-not-there
returns-then-not-there c = let g = c.args in no_chunk binary64 g.m g.pos.now g.k g.rows.now g.rt g.there (not-true _ (ap not c.if-not-there.true))

pub returns : goal.returns
returns c = let g = c.args in chunk_held binary64 g.m g.pos.now g.k g.rows.now g.rt g.there (not-false _ (ap not c.if-not-there.false)) c.kept_of-kept.ensures c.boundary.ensures
