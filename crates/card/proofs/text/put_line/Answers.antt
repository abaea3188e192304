-- `card::text::put_line` meets its contract: its parts, one after the other.
use native.Mathlib.Omega.{arith}
use Rattle.card.specs.Text.{line}
use Rattle.card.proofs.Digits.{joined}
use Rattle.card.proofs.Lengths.{word_most, numbers_most}
use lib.Dec.{ltb}
use Rattle.card.proofs.text.put_line.Goals as goal

pub put_word-b-requires : goal.put_word-b-requires
put_word-b-requires c = omega (arith, word_most c.args.n)

pub put_word-d-requires : goal.put_word-d-requires
put_word-d-requires c = omega (arith, word_most c.args.n, word_most c.args.number)

pub put_numbers-e-requires : goal.put_numbers-e-requires
put_numbers-e-requires c = let s = c.args in omega (arith, c.requires, c.put_word-a, c.put_word-b, c.put_word-d, word_most s.n, word_most s.number, word_most s.count)

pub put-requires : goal.put-requires
put-requires c = let s = c.args in omega (arith, c.requires, c.put_word-a, c.put_word-b, c.put_word-d, c.put_numbers-e, word_most s.n, word_most s.number, word_most s.count, numbers_most (ltb 0 s.number) s.margin s.stop)

pub returns : goal.returns
unfolding line
returns c = joined (joined (joined (joined c.put_word-a.ensures c.put_word-b.ensures) c.put_word-d.ensures) c.put_numbers-e.ensures) c.put.ensures
