-- `tier0::projected::projected_rows` meets its contract under each mode.
use lib.Ieee.{binary64}
use Rattle.checked.proofs.Copy.{all_put}
use Rattle.tier0.proofs.Rows.{rows_off, rows_on}
use Rattle.tier0.proofs.projected.projected_rows.Goals as goal

pub returns-in-Off : goal.returns-in-Off
returns-in-Off c = let w = c in rows_off binary64 _ _ _ _ _ _ _ _ c.in-Off.is (all_put w.args.out.now w.args.rows.now w.requires.2 w.requires.3 c.put.ensures)

pub returns-in-Project : goal.returns-in-Project
returns-in-Project c = rows_on binary64 _ _ _ _ _ _ _ _ c.in-Project.is c.run_rows.ensures
