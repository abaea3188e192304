-- `card::text::put_hex` meets its contract: sixteen digits in base sixteen.
use Rattle.card.specs.Text.{hex}
use Rattle.card.proofs.text.put_hex.Goals as goal

pub returns : goal.returns
unfolding hex
returns c = c.put_digits.ensures
