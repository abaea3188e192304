-- `input::answered` meets its contract: by whether a read failed and records have bytes.
use native.Mathlib.Nat.{mod-le}
use borrow.Author.Tests.{ltb-true}
use lib.Dec.{ltb}
use Rattle.input.specs.Reads.{answered}
use Rattle.input.proofs.Answers.{both}
use Rattle.input.proofs.answered.Goals as goal

pub nonzero_rem-result : goal.nonzero_rem-result
nonzero_rem-result c =
    let a = c.args in
    ltb-true 0 a.size (both a.f.failed (ltb 0 a.size) c.if-f-size.true).1

pub overflow_sub-result : goal.overflow_sub-result
overflow_sub-result c = mod-le _ _

pub returns-then-f-size : goal.returns-then-f-size
unfolding answered
returns-then-f-size c = rw c.if-f-size.true

pub returns-else-f-size : goal.returns-else-f-size
unfolding answered
returns-else-f-size c = rw c.if-f-size.false
