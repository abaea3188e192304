-- `card::block::fits` meets its contract: the test is the rule.
use mathlib.Core.Path.{refl}
use Rattle.card.specs.Block.{fits}
use Rattle.card.proofs.block.fits.Goals as goal

pub returns : goal.returns
unfolding fits
returns c = refl
