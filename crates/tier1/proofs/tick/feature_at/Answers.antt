-- `tier1::tick::feature_at` meets its contract, by where the feature stands.
use mathlib.Core.Bool.{not}
use mathlib.Core.Path.{ap}
use mathlib.Core.Path.{refl, sym}
use borrow.Author.Tests.{not-false}
use lib.Ieee.{nan, div, of_bits}
use lib.ListN.{get_or-eq_default}
use Rattle.tier1.proofs.Masks.{value_held, value_trail, value_lent}
use Rattle.tier1.proofs.tick.feature_at.Goals as goal

pub returns-then-j-lt-PATH_INEFF : goal.returns-then-j-lt-PATH_INEFF
returns-then-j-lt-PATH_INEFF c = let g = c.args in value_held g.held.now g.ineff g.ext.now g.j g.on (not-false _ (ap not c.if-not-on.false)) c.if-j-lt-PATH_INEFF.true

pub returns-then-j-lt-EXT0 : goal.returns-then-j-lt-EXT0
returns-then-j-lt-EXT0 c = let g = c.args in value_trail g.held.now g.ineff g.ext.now g.j g.on (not-false _ (ap not c.if-not-on.false)) c.if-j-lt-PATH_INEFF.false c.if-j-lt-EXT0.true

pub returns-then-j-ext : goal.returns-then-j-ext
returns-then-j-ext c = let g = c.args in value_lent g.held.now g.ineff g.ext.now g.j g.on (not-false _ (ap not c.if-not-on.false)) c.if-j-lt-PATH_INEFF.false c.if-j-lt-EXT0.false refl

pub returns : goal.returns
unfolding of_bits div
returns c = let g = c.args in value_lent g.held.now g.ineff g.ext.now g.j g.on (not-false _ (ap not c.if-not-on.false)) c.if-j-lt-PATH_INEFF.false c.if-j-lt-EXT0.false (sym (get_or-eq_default g.ext.now nan c.if-j-ext.false))
