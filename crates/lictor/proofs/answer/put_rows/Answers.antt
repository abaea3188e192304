-- `lictor::answer::put_rows` meets its contract: a copy, where there is room for all the numbers.
use borrow.Author.Tests.{lt-leb}
use lib.ListN.{length}
use Rattle.lictor.proofs.Ticked.{over_is}
use borrow.Author.Rules.{rules}
use Rattle.lictor.proofs.answer.put_rows.Goals as goal

pub returns-then-rows-le512 : goal.returns-then-rows-le512
returns-then-rows-le512 c = let g = c.args in over_is g.numbers.now g.rows.now (search rules) c.if-rows-le512.true c.put.ensures

pub returns-else-rows-le512 : goal.returns-else-rows-le512
returns-else-rows-le512 c = rw (lt-leb (length c.args.rows.now) 512 c.if-rows-le512.false)
