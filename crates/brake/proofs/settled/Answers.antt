-- `brake::settled` meets its contract: the place after the entries, or the forecast's numbers.
use lib.Ieee.{of_bits}
use Rattle.brake.proofs.Outcome.{fails, passes}
use Rattle.brake.proofs.settled.Goals as goal

pub returns-then-run-stop : goal.returns-then-run-stop
returns-then-run-stop c t is = fails t c.args.run c.args.stop is c.if-run-stop.true

pub returns : goal.returns
unfolding of_bits
returns c t is = passes t c.args.run c.args.stop is c.if-run-stop.false
