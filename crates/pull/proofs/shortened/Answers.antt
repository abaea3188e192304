-- `pull::shortened` meets its contract: the factor as the source orders it, then each coordinate.
use lib.Ieee.{binary64, of_bits, sub, div}
use Rattle.pull.proofs.Steps.{shortened_is}
use Rattle.pull.proofs.shortened.Goals as goal

pub returns : goal.returns
unfolding of_bits sub div
returns c = shortened_is binary64 _ _ _ _ _ c.finite-fine.ensures c.finite-good.ensures c.moved_toward-r.ensures
