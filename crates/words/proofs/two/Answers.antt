-- `words::two` meets its contract: two bytes side by side.
use Rattle.words.proofs.Beside.{two as two_bytes}
use native.Mathlib.Omega.{arith}
use borrow.Author.Rules.{rules}
use Rattle.words.proofs.two.Goals as goal

pub returns : goal.returns
returns c = (omega (arith, two_bytes c.args.b.now c.args.at), search rules)
