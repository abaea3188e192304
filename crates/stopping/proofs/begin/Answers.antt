-- `stopping::begin` meets its contract: the start's entry is written, or a number on the way to it isn't finite.
use mathlib.Core.Path.{refl}
use native.Mathlib.Omega.{arith}
use lib.Ieee.{binary64, of_bits, div}
use Rattle.stopping.specs.Of.{task_of}
use Rattle.stopping.proofs.Along.{start_fails, start_enters}
use Rattle.stopping.proofs.begin.Goals as goal

pub returns-then-not-react-g : goal.returns-then-not-react-g
unfolding of_bits div
returns-then-not-react-g c =
    let s = c in
    rw c.halted.ensures (omega arith, λ ticks rows g w. start_fails binary64 (task_of s.args.arm ticks s.args.w s.args.c s.args.start rows) s.args.slack.now s.args.start refl s.args.g g s.args.react w c.radius-r.result c.radius-r.ensures c.slack_r-gap.result c.slack_r-gap.ensures c.if-not-react-g.true)

pub returns : goal.returns
unfolding of_bits div
returns c =
    let s = c in
    (omega arith, λ ticks rows g w. start_enters binary64 (task_of s.args.arm ticks s.args.w s.args.c s.args.start rows) s.args.slack.now s.args.start refl s.args.g g s.args.react w c.radius-r.result c.radius-r.ensures c.slack_r-gap.result c.slack_r-gap.ensures c.if-not-react-g.false _ c.min-margin.ensures)
