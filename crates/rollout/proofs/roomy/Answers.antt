-- `rollout::roomy` meets its contract: its tests are the definition's, and N is the one product of control steps and substeps.
use Rattle.checked.specs.Each.{every}
use Rattle.course.specs.Of.{shaped}
use Rattle.rollout.specs.Of.{roomy}
use Rattle.rollout.proofs.roomy.Goals as goal

pub returns : goal.returns
unfolding shaped roomy every
returns c =
    rw (c.substeps_in-n.ensures, c.rows_left.ensures)
