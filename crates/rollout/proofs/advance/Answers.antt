-- `rollout::advance` meets its contract: the run has stopped, stops here, or writes the entry and goes on (`Along`).
use Prim.Native.Nat.{◌≤◌}
use mathlib.Core.Path.{◌≡◌}
use native.Mathlib.Omega.{arith}
use borrow.Author.Rules.{rules}
use borrow.Author.Tests.{not-true, not-false}
use lib.ListN.{length}
use lib.Ieee.{binary64}
use Rattle.course.proofs.Along.{along_stopped}
use Rattle.rollout.proofs.Along.{turn_fails, turn_advances}
use Rattle.rollout.proofs.advance.Goals as goal

pub returns-then-not-run : goal.returns-then-not-run
returns-then-not-run c = (omega arith, λ t stand l k go h. along_stopped t stand l k _ _ h (not-true _ c.if-not-run.true))

pub returns-then-not-gap : goal.returns-then-not-gap
returns-then-not-gap c =
    let s = c in
    let long : length s.args.run.plant.p ≡ 8 = search rules in
    let axes : s.args.n ≤ length s.args.run.plant.p = omega (arith, long, s.requires.0) in (
      omega arith,
      λ t stand l k go h.
          turn_fails binary64 t stand l k s.args.run s.args.slack.now s.args.g s.args.w s.args.n s.args.a.now h go (not-false _ c.if-not-run.false) axes
          c.substep-next.result c.substep-next.ensures c.slack-gap.result c.slack-gap.ensures (not-true _ c.if-not-gap.true),
    )

pub returns : goal.returns
returns c =
    let s = c in
    let long : length s.args.run.plant.p ≡ 8 = search rules in
    let axes : s.args.n ≤ length s.args.run.plant.p = omega (arith, long, s.requires.0) in (
      omega arith,
      λ t stand l k go h.
          turn_advances binary64 t stand l k s.args.run s.args.slack.now s.args.g s.args.w s.args.n s.args.a.now h go (not-false _ c.if-not-run.false) axes
          c.substep-next.result c.substep-next.ensures c.slack-gap.result c.slack-gap.ensures (not-false _ c.if-not-gap.false) _ c.min-margin.ensures,
    )
