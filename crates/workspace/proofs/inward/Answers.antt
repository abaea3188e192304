-- `workspace::inward` meets its contract: at a box the point is put between the walls, with a disc it is pulled before that.
use mathlib.Core.Path.{sym, ap}
use lib.Ieee.{binary64}
use Rattle.workspace.specs.Shape.{first_boxed}
use Rattle.workspace.specs.Of.{walls_in}
use Rattle.workspace.proofs.Gaps.{inward_box, inward_disc}
use Rattle.workspace.proofs.inward.Goals as goal

pub returns-in-Box : goal.returns-in-Box
returns-in-Box c =
    let s = c.args in
    let h = c.in-Box.is in
    inward_box binary64 (walls_in s.shape s.b) s.a s.n h (c.walled-at.ensures s.shape (sym (ap first_boxed h)))

pub returns-in-Disc : goal.returns-in-Disc
returns-in-Disc c =
    let s = c.args in
    let h = c.in-Disc.is in
    inward_disc binary64 (walls_in s.shape s.b) s.a s.n h c.pulled-on.ensures (c.walled-at-in-Disc.ensures s.shape (sym (ap first_boxed h)))
