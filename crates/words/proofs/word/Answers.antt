-- `words::word` meets its contract: two fours side by side.
use Rattle.words.proofs.Beside.{eight}
use native.Mathlib.Omega.{arith}
use Rattle.words.proofs.word.Goals as goal

pub returns : goal.returns
returns c = omega (arith, eight c.args.b.now c.args.at)
