-- `workspace::around_all` meets its contract: two axes a turn, of which the two sums tell.
use Prim.Native.Nat.{ℕ, ◌*◌, ◌<◌}
use mathlib.Core.List.{List}
use mathlib.Core.Path.{◌≡◌}
use mathlib.Core.Bool.{true, ◌&&◌}
use lib.ListN.{length}
use lib.Ieee.{Float, binary64}
use Rattle.workspace.specs.declared.Workspace.{Workspace}
use Rattle.checked.specs.Each.{at}
use Rattle.checked.specs.Finite.{finite}
use Rattle.workspace.specs.Rule.{gap}
use Rattle.workspace.specs.Of.{walls_of}
use Rattle.workspace.proofs.around_all.Given as goal

-- the first i pairs of axes are taken
pub record Paired (w : Workspace) (p : List Float) (near : List Float) (even odd : Float) (i : ℕ) : Type 0 where
  pub wide : length near ≡ 8
  pub so_far : ((j : ℕ) → j < 2 * i → at near j ≡ (gap binary64 (walls_of w) p j).value)
  pub told : finite even && finite odd ≡ true → (j : ℕ) → j < 2 * i → (gap binary64 (walls_of w) p j).sound ≡ true

abbrev pub invariant-loop-i : goal.invariant-loop-i
invariant-loop-i l = Paired l.w l.p l.near l.even l.odd l.i
