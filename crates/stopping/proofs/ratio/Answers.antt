-- `stopping::ratio` meets its contract: every kind of brake has the ratio of its two gains.
use Rattle.std.proofs.Common.{arith}
use Rattle.stopping.specs.Rule.{ratio}
use Rattle.stopping.proofs.ratio.Goals as goal

pub returns : goal.returns
unfolding ratio
returns c = grind arith
