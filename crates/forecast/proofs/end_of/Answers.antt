-- `forecast::end_of` meets its contract: test by test.
use borrow.Author.Tests.{eq-eqb, ne_eqb}
use Rattle.forecast.specs.Run.{end_of}
use Rattle.forecast.proofs.end_of.Goals as goal

pub returns-then-not-t : goal.returns-then-not-t
unfolding end_of
returns-then-not-t c = rw c.if-not-t.true

pub returns-then-t : goal.returns-then-t
unfolding end_of
returns-then-t c = rw (c.if-not-t.false, c.if-t.true)

pub returns-then-t-eq0 : goal.returns-then-t-eq0
unfolding end_of
returns-then-t-eq0 c = rw (c.if-not-t.false, c.if-t.false, eq-eqb _ 0 c.if-t-eq0.true)

pub returns : goal.returns
unfolding end_of
returns c = rw (c.if-not-t.false, c.if-t.false, ne_eqb _ 0 c.if-t-eq0.false)
