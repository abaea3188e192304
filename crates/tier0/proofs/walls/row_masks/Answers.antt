-- `tier0::walls::row_masks` meets its contract: a row that is not out of the workspace was moved by no wall.
use mathlib.Core.Bool.{not}
use mathlib.Core.Path.{ap}
use borrow.Author.Tests.{not-true, not-false}
use lib.Ieee.{binary64}
use Rattle.tier0.proofs.Masks.{row_moved, row_unmoved}
use Rattle.tier0.proofs.walls.row_masks.Goals as goal

pub returns-then-not-out-moves_inside : goal.returns-then-not-out-moves_inside
returns-then-not-out-moves_inside c = let s = c in row_unmoved binary64 _ _ _ c.moves_inside.ensures _ s.requires (not-true _ (ap not c.if-not-out-moves_inside.true)) c.unmoved.ensures

pub returns : goal.returns
returns c = let s = c in row_moved binary64 _ _ _ c.moves_inside.ensures _ s.requires (not-false _ (ap not c.if-not-out-moves_inside.false)) c.box_dims-n.ensures c.wall_masks.ensures
