-- `conformal::features_ok` meets its contract: its tests are the definition's.
use native.Mathlib.Omega.{arith}
use Rattle.checked.specs.Each.{every}
use Rattle.conformal.specs.Refusals.{features_ok}
use Rattle.conformal.proofs.features_ok.Goals as goal

pub bit-stall-requires : goal.bit-stall-requires
bit-stall-requires c = omega arith

pub returns : goal.returns
unfolding features_ok every
returns c = rw (c.bit-stall.ensures, c.counted_terms-terms.ensures)
