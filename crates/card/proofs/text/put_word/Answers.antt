-- `card::text::put_word` meets its contract: the number, then the space.
use native.Mathlib.Omega.{arith}
use Rattle.card.specs.Text.{word}
use Rattle.card.proofs.Digits.{joined}
use Rattle.card.proofs.Lengths.{decimal_most}
use Rattle.card.proofs.text.put_word.Goals as goal

pub put-requires : goal.put-requires
put-requires c = omega (arith, decimal_most c.args.n)

pub returns : goal.returns
unfolding word
returns c = joined c.put_decimal-a.ensures c.put.ensures
