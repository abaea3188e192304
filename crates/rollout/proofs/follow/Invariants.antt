-- `rollout::follow` meets its contract: the loop holds one row a turn, and row i is what its substeps go towards (`Rows`).
use Prim.Native.Nat.{ℕ, ◌+◌, ◌*◌, ◌≤◌}
use mathlib.Core.Path.{◌≡◌}
use mathlib.Core.List.{List}
use lib.ListN.{length}
use lib.Ieee.{Float, binary64}
use Rattle.course.specs.declared.Course.{Course}
use Rattle.course.specs.declared.Run.{Run}
use Rattle.workspace.specs.declared.Workspace.{Workspace}
use Rattle.rollout.specs.declared.Law.{Law}
use Rattle.course.specs.declared.Plant.{Plant}
use Rattle.rollout.specs.Of.{task_of, Along}
use Rattle.course.specs.Of.{left_of}
use Rattle.rollout.proofs.follow.Given as goal

-- i of the rows that are left are run
pub record Following (g : Law) (w : Workspace) (c : Course) (rows slack₀ : List Float) (left per : ℕ) (r₀ : Run) (slack : List Float) (r : Run) (i : ℕ) : Type 0 where
  pub turns : i ≤ left
  pub rows_left : left ≡ (left_of c).0
  pub substeps : per ≡ c.per.0
  pub same : length slack ≡ length slack₀
  pub written : r.done ≤ r₀.done + i * per
  pub comes : ((s : Plant) (l : List Float) → Along binary64 (task_of g w c s rows) l 0 r₀ slack₀ → Along binary64 (task_of g w c s rows) l (i * per) r slack)

abbrev pub invariant-loop-i : goal.invariant-loop-i
invariant-loop-i l = Following l.g l.w l.c l.rows l.initial.slack l.left l.per l.initial.r l.slack l.r l.i
