-- `words::four` meets its contract: two twos side by side.
use Rattle.words.proofs.Beside.{four as four_bytes}
use native.Mathlib.Omega.{arith}
use borrow.Author.Rules.{rules}
use Rattle.words.proofs.four.Goals as goal

pub returns : goal.returns
returns c = (omega (arith, four_bytes c.args.b.now c.args.at), search rules)
