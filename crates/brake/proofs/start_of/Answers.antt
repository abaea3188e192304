-- `brake::start_of` meets its contract: both on the axes that move.
use native.Mathlib.Omega.{arith}
use Rattle.checked.proofs.Copy.{eight_is}
use Rattle.brake.proofs.start_of.Goals as goal

pub returns : goal.returns
returns c =
    let g = c.args in
    let few = c.requires in
    let live = c.fewer-n.ensures in
    rw (eight_is g.vel.now _ (omega arith) c.padded-v.ensures, eight_is g.pos.now _ (omega arith) c.padded-p.ensures, live)
