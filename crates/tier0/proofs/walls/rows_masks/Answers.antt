-- `tier0::walls::rows_masks` meets its contract: where no row is out of the workspace no wall moved one.
use mathlib.Core.Bool.{not}
use mathlib.Core.Path.{ap}
use borrow.Author.Tests.{not-true, not-false}
use lib.Ieee.{binary64}
use Rattle.tier0.proofs.Masks.{rows_moved, rows_unmoved}
use Rattle.tier0.proofs.walls.rows_masks.Goals as goal

pub returns-then-not-out-moves_inside : goal.returns-then-not-out-moves_inside
returns-then-not-out-moves_inside c = let s = c in rows_unmoved binary64 _ _ _ c.moves_inside.ensures _ _ s.requires.3 (not-true _ (ap not c.if-not-out-moves_inside.true)) c.unmoved.ensures

pub returns : goal.returns
returns c = let s = c in rows_moved binary64 _ _ _ c.moves_inside.ensures _ _ s.requires.3 (not-false _ (ap not c.if-not-out-moves_inside.false)) c.any_masks.ensures
