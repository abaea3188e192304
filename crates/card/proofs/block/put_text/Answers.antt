-- `card::block::put_text` meets its contract: the lines, and that of a rest where there is one.
use Rattle.card.proofs.Lines.{whole, broken}
use Rattle.card.proofs.block.put_text.Goals as goal

pub returns-then-input-eq0 : goal.returns-then-input-eq0
returns-then-input-eq0 c =
    whole c.args.first c.args.input.now c.if-input-eq0.true c.put_cards-at.ensures.0

pub returns : goal.returns
returns c =
    broken c.args.first c.args.input.now c.if-input-eq0.false c.put_cards-at.ensures.0 c.put_line.ensures
