-- `tier0::projected::put_row` meets its contract: the loop puts one number a turn and keeps the length.
use mathlib.Core.Path.{refl}
use native.Mathlib.Omega.{arith}
use borrow.Author.Rules.{rules}
use Rattle.tier0.specs.Chunk.{put_row}
use Rattle.tier0.proofs.Rows.{put_turn}
use Rattle.tier0.proofs.projected.put_row.Goals as goal

pub loop-i-init : goal.loop-i-init
unfolding put_row
loop-i-init c = (search rules, refl)

pub loop-i-preserved : goal.loop-i-preserved
loop-i-preserved c = let l = c in (omega arith, put_turn _ _ _ _ _ l.loop-i.invariant.1)
