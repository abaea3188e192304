-- `words::byte` meets its contract: by whether the byte is there.
use mathlib.Core.Path.{sym}
use native.Mathlib.Omega.{arith}
use lib.ListN.{get_or-eq_default}
use Rattle.words.proofs.byte.Goals as goal

pub returns-else-i-b : goal.returns-else-i-b
returns-else-i-b c = (sym (get_or-eq_default c.args.b.now 0 {n = c.args.i} c.if-i-b.false), omega arith)
