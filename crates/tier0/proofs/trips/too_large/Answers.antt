-- `tier0::trips::too_large` meets its contract, armed or not.
use mathlib.Core.Bool.{not}
use mathlib.Core.Path.{ap, ◌∙◌}
use borrow.Author.Tests.{not-true, not-false}
use lib.Ieee.{binary64}
use Rattle.tier0.specs.Rule.{arms}
use Rattle.tier0.proofs.Rows.{large_off, large_on}
use Rattle.tier0.proofs.trips.too_large.Goals as goal

pub returns-then-not-armed : goal.returns-then-not-armed
returns-then-not-armed c = large_off binary64 _ _ _ _ _ (c.armed.ensures ∙ ap (arms _) c.trip_of.ensures) (not-true _ (ap not c.if-not-armed.true))

pub returns : goal.returns
returns c = large_on binary64 _ _ _ _ _ (c.armed.ensures ∙ ap (arms _) c.trip_of.ensures) (not-false _ (ap not c.if-not-armed.false)) c.large_rows.ensures
