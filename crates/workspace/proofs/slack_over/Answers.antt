-- `workspace::slack_over` meets its contract: the loop keeps the least so far, the edge's first.
use mathlib.Core.Path.{refl}
use mathlib.Core.Logic.{inl, inr}
use native.Mathlib.Omega.{arith}
use lib.Ieee.{of_bits, div}
use Rattle.workspace.proofs.Over.{least_starts, least_goes_on, least_ends}
use Rattle.workspace.proofs.slack_over.Goals as goal

pub returns-then-n-gt8-clause-few : goal.returns-then-n-gt8-clause-few
unfolding of_bits div
returns-then-n-gt8-clause-few g c = λ h. refl

pub loop-j-init : goal.loop-j-init
loop-j-init g c = let s = c.args in record {
  along = inr c.first_boxed-j.ensures;
  so_far = least_starts s.shape s.edge (goal.F-post g s.gap) s.n _ c.first_boxed-j.ensures;
}

pub loop-j-preserved : goal.loop-j-preserved
loop-j-preserved g c =
    let l = c.loop-j in
    let s = c.args in record {
      along = inl (omega arith);
      so_far = least_goes_on s.shape s.edge (goal.F-post g s.gap) s.n (omega (arith, l.auto.j, c.first_boxed-j.ensures)) c.loop-j-test.true l.invariant.so_far c.gap-g.ensures c.min-least.ensures;
    }

pub returns : goal.returns
returns g c =
    let l = c.loop-j in
    let s = c.args in record {
      few = λ h. absurd (omega arith);
      all = λ h. least_ends s.shape s.edge (goal.F-post g s.gap) s.n (omega arith) l.invariant.along l.invariant.so_far;
    }
