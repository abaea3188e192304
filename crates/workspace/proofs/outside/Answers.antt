-- `workspace::outside` meets its contract: at a box nothing is computed, with a disc the distance is compared with the radius.
use mathlib.Core.Path.{sym, ap}
use lib.Ieee.{binary64}
use Rattle.workspace.specs.Shape.{first_boxed}
use Rattle.workspace.specs.Of.{walls_in}
use Rattle.workspace.proofs.Gaps.{outside_box, outside_disc}
use Rattle.workspace.proofs.outside.Goals as goal

pub returns-in-Box : goal.returns-in-Box
returns-in-Box c =
    let s = c.args in
    let h = c.in-Box.is in
    outside_box binary64 (walls_in s.shape s.b) s.a.now s.n h (c.some_beyond-out.ensures s.shape (sym (ap first_boxed h)))

pub returns-in-Disc : goal.returns-in-Disc
returns-in-Disc c =
    let s = c.args in
    let h = c.in-Disc.is in
    outside_disc binary64 (walls_in s.shape s.b) s.a.now s.n h c.distance-far.ensures c.finite-sound.ensures (c.some_beyond-out-in-Disc.ensures s.shape (sym (ap first_boxed h)))
