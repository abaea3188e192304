-- `workspace::edge_slack` meets its contract, by the shape.
use mathlib.Core.Path.{refl}
use lib.Ieee.{of_bits, div}
use Rattle.workspace.specs.Over.{FromEdge}
use Rattle.workspace.proofs.edge_slack.Goals as goal

pub returns-in-Box : goal.returns-in-Box
unfolding FromEdge of_bits div
returns-in-Box g c = rw c.in-Box.is refl

pub returns : goal.returns
unfolding FromEdge of_bits div
returns g c = rw c.in-Disc.is (c.left-rest.result, rw c.distance.ensures at c.left-rest.ensures, rw (c.min.ensures, c.finite-sound.ensures))
