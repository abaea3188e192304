-- `envelope::inverses` meets its contract: the loop fills the table from the front.
use mathlib.Core.Path.{refl}
use native.Mathlib.Omega.{arith}
use lib.ListN.{length-set}
use lib.Ieee.{of_bits}
use Rattle.checked.specs.Each.{table}
use Rattle.checked.proofs.Each.{table_more, table_all}
use Rattle.envelope.specs.Derive.{inverses}
use Rattle.envelope.proofs.inverses.Goals as goal

pub loop-i-init : goal.loop-i-init
unfolding table
loop-i-init c = (refl, refl)

pub loop-i-preserved : goal.loop-i-preserved
unfolding of_bits
loop-i-preserved c = let l = c.loop-i in (simp length-set l.invariant.0, table_more _ _ _ _ (omega arith) l.invariant.1 c.keep.ensures)

pub returns : goal.returns
unfolding inverses
returns c = table_all _ _ _ _ (omega arith) c.loop-i.invariant.0 c.loop-i.invariant.1
