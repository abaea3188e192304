-- `root::guess::remainder` meets its contract: no difference wraps where the next test lets it pass.
use Rattle.std.proofs.Common.{arith}
use Rattle.root.proofs.Beside.{beside}
use Rattle.root.proofs.guess.remainder.Goals as goal

pub returns : goal.returns
returns c r =
    let s = c in
    beside s.args.w s.args.s.a s.args.s.b c.wrapping_sub_u64-second.result c.wrapping_sub_u64.result
    (omega arith) (omega arith) (omega arith) (omega arith) (omega arith) (omega arith) (omega arith) r
