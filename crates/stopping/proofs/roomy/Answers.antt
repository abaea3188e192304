-- `stopping::roomy` meets its contract: its tests are the definition's.
use Rattle.checked.specs.Each.{every}
use Rattle.course.specs.Of.{shaped}
use Rattle.stopping.specs.Of.{roomy}
use Rattle.stopping.proofs.roomy.Goals as goal

pub returns : goal.returns
unfolding shaped roomy every
returns c = rw c.rows_left-left.ensures
