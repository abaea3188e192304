-- `input::after` meets its contract: field by field, the last by the sign of the answer.
use mir.Facts.{to_z-of_z}
use Rattle.input.proofs.Answers.{negative_failed, read_is}
use Rattle.input.proofs.after.Goals as goal

pub overflow_add-result : goal.overflow_add-result
overflow_add-result c = rw (c.given-more.ensures, to_z-of_z c.ranges.got) (record { fits = c.requires })

pub returns : goal.returns
returns c =
    let e = to_z-of_z c.ranges.got in
    read_is c.args.n c.args.got (rw e at c.given-more.ensures) (rw e (negative_failed c.args.got))
