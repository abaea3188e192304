-- `forecast::run` meets its contract: the last block is the one after which the loop ends, and each block before it leaves fewer numbers.
use mathlib.Core.Path.{◌≡◌}
use lib.ListN.{length}
use Rattle.forecast.proofs.Known.{Step}
use Rattle.forecast.proofs.Numbers.{left}
use Rattle.forecast.proofs.run.Given as goal

abbrev pub invariant-turns : goal.invariant-turns
invariant-turns g l = record {
  room : length l.input ≡ 65472;
  same : length l.out ≡ length l.initial.out;
  step : Step (g.R.Read.remaining l.fn.from) (g.R.Read.remaining l.from) (g.W.Write.contents l.fn.to) (g.W.Write.contents l.to) l.t;
}

abbrev pub decreases-turns : goal.decreases-turns
decreases-turns g l = left l.t
