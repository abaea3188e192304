-- `tier0::zone::slow_zone` meets its contract, armed or not.
use mathlib.Core.Bool.{not}
use mathlib.Core.Path.{ap}
use borrow.Author.Tests.{not-true, not-false}
use lib.Ieee.{binary64}
use Rattle.tier0.proofs.Steps.{slow_off, slow_on}
use Rattle.tier0.proofs.zone.slow_zone.Goals as goal

pub returns-then-not-armed : goal.returns-then-not-armed
returns-then-not-armed c = slow_off binary64 _ _ _ c.armed.ensures (not-true _ (ap not c.if-not-armed.true)) c.no_zone.ensures

pub returns : goal.returns
returns c = slow_on binary64 _ _ _ c.armed.ensures (not-false _ (ap not c.if-not-armed.false)) c.slowest.ensures
