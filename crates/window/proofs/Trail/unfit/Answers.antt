-- `Trail::unfit` meets its contract: its test is the rule's.
use Rattle.window.proofs.Trail.unfit.Goals as goal

pub returns : goal.returns
returns c = rw c.all_finite.ensures
