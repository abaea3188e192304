-- `card::text::put_decimal` meets its contract: as many digits as the number has, in base ten.
use native.Mathlib.Omega.{arith}
use Rattle.card.specs.Text.{decimal}
use Rattle.card.proofs.Digits.{width_most}
use Rattle.card.proofs.text.put_decimal.Goals as goal

pub put_digits-requires : goal.put_digits-requires
put_digits-requires c = (omega (arith, c.width.ensures, width_most 19 c.args.n), omega arith, omega arith)

pub returns : goal.returns
unfolding decimal
returns c = rw c.width.ensures at c.put_digits.ensures
