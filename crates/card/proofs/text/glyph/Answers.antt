-- `card::text::glyph` meets its contract: by whether the digit is below ten.
use borrow.Author.Tests.{lt-ltb, le-ltb}
use Rattle.card.specs.Text.{glyph}
use Rattle.card.proofs.text.glyph.Goals as goal

pub returns-then-d-lt10 : goal.returns-then-d-lt10
unfolding glyph
returns-then-d-lt10 c = rw (lt-ltb _ _ c.if-d-lt10.true)

pub returns-else-d-lt10 : goal.returns-else-d-lt10
unfolding glyph
returns-else-d-lt10 c = rw (le-ltb _ _ c.if-d-lt10.false)
