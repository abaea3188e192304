-- `tier1::tick::valid_at` meets its contract: a held feature, PathIneff, Stall or an external one.
use Rattle.tier1.proofs.Masks.{valid_held, valid_trail, valid_never, valid_lent}
use Rattle.tier1.proofs.tick.valid_at.Goals as goal

pub returns-then-j-lt-PATH_INEFF : goal.returns-then-j-lt-PATH_INEFF
returns-then-j-lt-PATH_INEFF c = let g = c.args in valid_held g.held g.len g.ext g.j g.w c.if-j-lt-PATH_INEFF.true c.requires.1

pub returns-then-j-lt-STALL : goal.returns-then-j-lt-STALL
returns-then-j-lt-STALL c = let g = c.args in valid_trail g.held g.len g.ext g.j c.if-j-lt-PATH_INEFF.false c.if-j-lt-STALL.true

pub returns-then-j-lt-EXT0 : goal.returns-then-j-lt-EXT0
returns-then-j-lt-EXT0 c = let g = c.args in valid_never g.held g.len g.ext g.j c.if-j-lt-PATH_INEFF.false c.if-j-lt-STALL.false c.if-j-lt-EXT0.true

pub returns : goal.returns
returns c = let g = c.args in valid_lent g.held g.len g.ext g.j c.if-j-lt-PATH_INEFF.false c.if-j-lt-STALL.false c.if-j-lt-EXT0.false
