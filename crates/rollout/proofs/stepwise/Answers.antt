-- `rollout::stepwise` meets its contract: the loop comes along one entry a turn.
use Prim.Native.Nat.{ℕ, ◌+◌}
use mathlib.Core.Path.{◌≡◌, ap, ◌∙◌}
use native.Mathlib.Omega.{arith}
use lib.Ieee.{binary64}
use Rattle.rollout.proofs.Along.{legged_next}
use Rattle.course.proofs.Along.{along_sum, along_at}
use Rattle.rollout.proofs.stepwise.Goals as goal

pub loop-preserved : goal.loop-preserved
loop-preserved c =
    let s = c in
    let i = c.loop in
    let call = c.advance-r in record {
      turns = omega arith;
      same = call.auto.slack ∙ i.invariant.same;
      written = omega (arith, call.ensures.0, i.invariant.written);
      comes = λ t stand l k go h.
          along_sum t stand l k _ _ i.counter 1
          (call.ensures.1 t stand l (k + i.counter)
          (legged_next binary64 _ t stand l k s.args.count i.counter s.args.run i.r s.args.slack.now i.slack h go (i.invariant.comes t stand l k go h) (omega arith))
          (i.invariant.comes t stand l k go h));
    }

pub returns : goal.returns
returns c =
    let s = c in
    let i = c.loop in
    let e : i.counter ≡ s.args.count = omega arith in
    (omega (arith, i.invariant.written), λ t stand l k go h. along_at t stand l (k + s.args.count) _ _ (k + i.counter) (ap (λ (m : ℕ). k + m) e) (i.invariant.comes t stand l k go h))
