-- `tier1::tick::path_ineff` meets its contract: the way has a test of its own, since a quotient by it hides an infinity.
use borrow.Author.Tests.{le-leb}
use lib.Ieee.{binary64, of_bits}
use Rattle.tier1.specs.Rule.{net_length, path_length, path_ineff}
use Rattle.tier1.proofs.Found.{is_there, ineff_is}
use Rattle.tier1.proofs.tick.path_ineff.Goals as goal

pub returns : goal.returns
unfolding of_bits net_length path_length
returns c =
    let w = c in
    let g = w.args in
    is_there (path_ineff binary64 g.m g.t) (le-leb 20 g.t.len w.if-t-lt-PE_WINDOW.false)
    (ineff_is binary64 g.m g.t w.displacement-n.ensures c.travelled-p.ensures c.max.ensures c.finite-a.ensures c.finite-b.ensures)
