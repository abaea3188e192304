-- `tier0::walls::any_masks` meets its contract: the loop joins the masks of one row a turn.
use Prim.Native.Nat.{◌≤◌}
use mathlib.Core.Path.{◌≡◌}
use Rattle.workspace.specs.declared.WallMasks.{WallMasks}
use Rattle.workspace.specs.Of.{walls_in}
use Rattle.workspace.specs.Rule.{any_masks}
use Rattle.tier0.specs.Chunk.{raw_row}
use Rattle.tier0.proofs.walls.any_masks.Given as goal

abbrev pub invariant-loop-i : goal.invariant-loop-i
invariant-loop-i l = (l.i ≤ l.h) × (◌≡◌ {A = WallMasks} (record { low = l.low; high = l.high }) (any_masks (walls_in l.shape l.walls) (raw_row l.rows l.s.dim) l.i l.n))
