-- `pull::pulled` meets its contract, near and far: where it is far, all n coordinates are there.
use mathlib.Core.Path.{◌≡◌}
use native.Mathlib.Omega.{arith}
use lib.ListN.{length}
use lib.Ieee.{binary64}
use Rattle.fmath.proofs.Lengths.{dist_there}
use Rattle.pull.proofs.Steps.{pulled_near, pulled_far}
use borrow.Author.Rules.{rules}
use Rattle.pull.proofs.pulled.Goals as goal

pub shortened-r-requires : goal.shortened-r-requires
shortened-r-requires c =
    let g = c.args in
    let w = dist_there binary64 g.most g.a g.q.now g.n c.distance-far.ensures c.if-most-far.true in
    let long : length g.a ≡ 8 = search rules in
    (omega (arith, w.0), w.1)

pub returns-then-most-far : goal.returns-then-most-far
returns-then-most-far c = pulled_far binary64 _ _ _ _ c.distance-far.ensures c.finite-fine.ensures c.if-most-far.true c.shortened-r.ensures

pub returns : goal.returns
returns c = pulled_near binary64 _ _ _ _ c.distance-far.ensures c.finite-fine.ensures c.if-most-far.false
