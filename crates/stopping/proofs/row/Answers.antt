-- `stopping::row` meets its contract: the run has stopped, stops here, or writes the entry and goes on (`Along`).
use mathlib.Core.Path.{◌≡◌}
use Prim.Native.Nat.{◌≤◌}
use native.Mathlib.Omega.{arith}
use borrow.Author.Tests.{not-true, not-false}
use lib.ListN.{length}
use lib.Ieee.{binary64}
use Rattle.course.proofs.Along.{along_stopped}
use Rattle.stopping.specs.Rule.{stand, forecast}
use Rattle.stopping.specs.Of.{task_of}
use Rattle.stopping.proofs.Along.{turn_fails, turn_advances}
use borrow.Author.Rules.{rules}
use Rattle.stopping.proofs.row.Goals as goal

pub returns-then-not-run : goal.returns-then-not-run
returns-then-not-run c = (omega arith, λ ticks q rows l k u h go. let t = task_of c.args.arm ticks c.args.w c.args.c q rows in along_stopped (forecast binary64 t) (stand binary64 t) l _ _ _ h (not-true _ c.if-not-run.true))

pub returns-then-not-r-gap : goal.returns-then-not-r-gap
returns-then-not-r-gap c = rw c.halted.ensures (
  omega arith,
  λ ticks q rows l k u h go.
      let s = c in
      let long : length s.args.run.plant.v ≡ 8 = search rules in
      let axes : s.args.c.live ≤ length s.args.run.plant.v = omega (arith, long, s.requires.0) in
      let live = not-false _ c.if-not-run.false in
      turn_fails binary64 (task_of s.args.arm ticks s.args.w s.args.c q rows) l k s.args.run s.args.slack.now h live s.args.g s.args.react u s.args.a.now (go live) axes
      c.command-v.result c.command-v.ensures c.radius-r.result c.radius-r.ensures c.slack_r-gap.result c.slack_r-gap.ensures c.step-next.result c.step-next.ensures
      (c.if-not-r-gap.true),
)

pub returns : goal.returns
returns c = (
  omega arith,
  λ ticks q rows l k u h go.
      let s = c in
      let long : length s.args.run.plant.v ≡ 8 = search rules in
      let axes : s.args.c.live ≤ length s.args.run.plant.v = omega (arith, long, s.requires.0) in
      let live = not-false _ c.if-not-run.false in
      turn_advances binary64 (task_of s.args.arm ticks s.args.w s.args.c q rows) l k s.args.run s.args.slack.now h live s.args.g s.args.react u s.args.a.now (go live) axes
      c.command-v.result c.command-v.ensures c.radius-r.result c.radius-r.ensures c.slack_r-gap.result c.slack_r-gap.ensures c.step-next.result c.step-next.ensures
      c.if-not-r-gap.false _ c.min-margin.ensures,
)
