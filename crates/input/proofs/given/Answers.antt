-- `input::given` meets its contract: by the sign of the answer.
use mir.Facts.{to_z-of_z}
use Rattle.input.proofs.Answers.{positive_fits, positive_given, none_given}
use Rattle.input.proofs.given.Goals as goal

pub overflow_cast-result : goal.overflow_cast-result
overflow_cast-result c = let e = to_z-of_z c.ranges.got in rw e (positive_fits c.args.got c.ranges.got (rw e at c.if-got-gt0.true))

pub returns-then-got-gt0 : goal.returns-then-got-gt0
returns-then-got-gt0 c = let e = to_z-of_z c.ranges.got in rw e (positive_given c.args.got (rw e at c.if-got-gt0.true))

pub returns-else-got-gt0 : goal.returns-else-got-gt0
returns-else-got-gt0 c = none_given c.args.got (rw (to_z-of_z c.ranges.got) at c.if-got-gt0.false)
