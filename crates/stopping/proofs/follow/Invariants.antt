-- `stopping::follow` meets its contract: the loop takes one row a turn.
use Prim.Native.Nat.{ℕ, suc, ◌+◌, ◌≤◌}
use mathlib.Core.Path.{◌≡◌}
use mathlib.Core.List.{List}
use lib.ListN.{length}
use lib.Ieee.{Float, binary64}
use Rattle.course.specs.declared.Run.{Run}
use Rattle.course.specs.declared.Course.{Course}
use Rattle.workspace.specs.declared.Workspace.{Workspace}
use Rattle.stopping.specs.declared.Arm.{Arm}
use Rattle.course.specs.declared.Plant.{Plant}
use Rattle.course.specs.Of.{left_of}
use Rattle.stopping.specs.Of.{task_of, Along, Under}
use Rattle.stopping.proofs.follow.Given as goal

-- i of the rows that are left are run
pub record Following (arm : Arm) (w : Workspace) (c : Course) (g react : Float) (rows slack₀ : List Float) (left : ℕ) (r₀ : Run) (slack : List Float) (r : Run) (i : ℕ) : Type 0 where
  pub turns : i ≤ left
  pub rows_left : left ≡ (left_of c).0
  pub same : length slack ≡ length slack₀
  pub written : r.done ≤ r₀.done + i
  pub comes : ((ticks : ℕ) (s : Plant) (l : List Float) → Under binary64 (task_of arm ticks w c s rows) g react → Along binary64 (task_of arm ticks w c s rows) l 1 r₀ slack₀ → Along binary64 (task_of arm ticks w c s rows) l (suc i) r slack)

abbrev pub invariant-loop-i : goal.invariant-loop-i
invariant-loop-i l = Following l.arm l.w l.c l.g l.react l.rows l.initial.slack l.left l.initial.r l.slack l.r l.i
