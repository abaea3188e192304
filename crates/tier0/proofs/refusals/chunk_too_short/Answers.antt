-- `tier0::refusals::chunk_too_short` meets its contract as written.
use mathlib.Core.Path.{refl}
use Rattle.tier0.specs.Refusals.{chunk_too_short}
use Rattle.tier0.proofs.refusals.chunk_too_short.Goals as goal

pub returns : goal.returns
unfolding chunk_too_short
returns c = refl
