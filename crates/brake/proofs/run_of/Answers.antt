-- `brake::run_of` meets its contract: the run is that of the configuration's leg, and has room.
use lib.Ieee.{binary64}
use Rattle.brake.proofs.Towards.{run_is, written_is}
use Rattle.brake.proofs.run_of.Goals as goal

pub returns : goal.returns
returns c =
    let s = c in
    let run = c.towards.ensures in
    let law = c.law_of-law.ensures in
    let live = c.fewer-live.ensures in
    let start = c.start_of-start.ensures in (
      run_is binary64 s.args.c s.args.setpoint.now s.args.pos.now s.args.vel.now s.args.n s.requires.0 law s.requires.1 live start run.value,
      written_is binary64 s.args.c s.args.setpoint.now s.args.pos.now s.args.vel.now s.args.n s.requires.0 law s.requires.1 live start s.args.slack.now run.slack_after,
    )
