-- `workspace::least_of` meets its contract: the loop keeps the least so far.
use mathlib.Core.Path.{◌≡◌, refl, ◌∙◌}
use native.Mathlib.Omega.{arith}
use lib.Ieee.{of_bits, div}
use Rattle.checked.specs.Each.{at}
use Rattle.checked.specs.Least.{least}
use Rattle.checked.proofs.Extremes.{least_more}
use Rattle.workspace.proofs.least_of.Goals as goal

pub loop-j-init : goal.loop-j-init
unfolding least of_bits div
loop-j-init c = refl

pub loop-j-preserved : goal.loop-j-preserved
loop-j-preserved c =
    let l = c.loop-j in
    let s = c.args in
    c.min-least.ensures ∙ least_more (at s.near) l.j l.least _ l.invariant refl

pub returns : goal.returns
returns c =
    let l = c.loop-j in
    let e : l.j ≡ c.args.n = omega arith in
    rw e at l.invariant
