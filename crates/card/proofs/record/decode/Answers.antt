-- `card::record::decode` meets its contract: field by field.
use Rattle.card.specs.Record.{card_at}
use Rattle.card.proofs.record.decode.Goals as goal

pub returns : goal.returns
unfolding card_at
returns c = rw (c.word.ensures, c.word-2.ensures, c.word-3.ensures, c.word-4.ensures, c.word-5.ensures, c.word-6.ensures, c.word-7.ensures, c.word-8.ensures, c.word-9.ensures, c.word-10.ensures, c.word-11.ensures, c.pair.ensures, c.pair-2.ensures, c.pair-3.ensures, c.pair-4.ensures)
