-- `rollout::abreast` meets its contract: the loop comes along one entry a turn, with the first n axes as n axes alone would move (`Wide`).
use Prim.Native.Nat.{ℕ, ◌+◌, ◌≤◌}
use mathlib.Core.Path.{◌≡◌}
use mathlib.Core.Bool.{true}
use mathlib.Core.List.{List}
use lib.ListN.{length}
use lib.Ieee.{Float, binary64}
use Rattle.workspace.specs.declared.Workspace.{Workspace}
use Rattle.rollout.specs.declared.Law.{Law}
use Rattle.course.specs.declared.Plant.{Plant}
use Rattle.course.specs.declared.Run.{Run}
use Rattle.course.specs.Plant.{State}
use Rattle.course.specs.Forecast.{Forecast}
use Rattle.course.specs.Of.{CameAlong}
use Rattle.rollout.specs.Of.{leg_of, AlongLeg}
use Rattle.rollout.proofs.Wide.{running}
use Rattle.rollout.proofs.abreast.Given as goal

-- the run as it starts
abbrev pub first : Plant → Float → ℕ → Run
first still margin done = record { plant = still; margin = margin; done = done; sound = true }

-- s of count substeps are run, all eight axes at once
pub record Coming (g : Law) (w : Workspace) (n : ℕ) (a : List Float) (count : ℕ) (slack₀ : List Float) (still : Plant) (margin₀ : Float) (at₀ : ℕ) (slack : List Float) (moved : Plant) (margin : Float) (at s : ℕ) : Type 0 where
  pub turns : s ≤ count
  pub same : length slack ≡ length slack₀
  pub written : at ≤ at₀ + s
  pub places : length moved.p ≡ 8
  pub rates : length moved.v ≡ 8
  pub comes : ((t : Forecast) (stand : ℕ → State) (l : List Float) (k : ℕ) → AlongLeg binary64 (leg_of binary64 g w n a) t stand k count (first still margin₀ at₀) → CameAlong t stand l k (first still margin₀ at₀) slack₀ → CameAlong t stand l (k + s) (running moved still n margin at) slack)

abbrev pub invariant-loop-substep : goal.invariant-loop-substep
invariant-loop-substep l = Coming l.g l.w l.n l.a l.count l.initial.slack l.still l.initial.margin l.initial.at l.slack l.moved l.margin l.at l._substep
