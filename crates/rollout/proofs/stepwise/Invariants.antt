-- `rollout::stepwise` meets its contract: the loop comes along one entry a turn.
use Prim.Native.Nat.{ℕ, ◌+◌, ◌≤◌}
use mathlib.Core.Path.{◌≡◌}
use mathlib.Core.List.{List}
use lib.ListN.{length}
use lib.Ieee.{Float, binary64}
use Rattle.course.specs.declared.Run.{Run}
use Rattle.workspace.specs.declared.Workspace.{Workspace}
use Rattle.rollout.specs.declared.Law.{Law}
use Rattle.course.specs.Plant.{State}
use Rattle.course.specs.Forecast.{Forecast}
use Rattle.course.specs.Of.{CameAlong}
use Rattle.rollout.specs.Of.{leg_of, AlongLeg}
use Rattle.rollout.proofs.stepwise.Given as goal

-- s of count substeps are run
pub record Coming (g : Law) (w : Workspace) (n : ℕ) (a : List Float) (count : ℕ) (slack₀ : List Float) (r₀ : Run) (slack : List Float) (r : Run) (s : ℕ) : Type 0 where
  pub turns : s ≤ count
  pub same : length slack ≡ length slack₀
  pub written : r.done ≤ r₀.done + s
  pub comes : ((t : Forecast) (stand : ℕ → State) (l : List Float) (k : ℕ) → AlongLeg binary64 (leg_of binary64 g w n a) t stand k count r₀ → CameAlong t stand l k r₀ slack₀ → CameAlong t stand l (k + s) r slack)

abbrev pub invariant-loop : goal.invariant-loop
invariant-loop l = Coming l.g l.w l.n l.a l.count l.initial.slack l.initial.r l.slack l.r l.counter
