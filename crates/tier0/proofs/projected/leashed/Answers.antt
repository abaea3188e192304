-- `tier0::projected::leashed` meets its contract, with a leash or without.
use mathlib.Core.Bool.{not}
use mathlib.Core.Path.{ap}
use borrow.Author.Tests.{not-true, not-false}
use lib.Ieee.{binary64}
use Rattle.tier0.proofs.Steps.{leashed_off, leashed_on}
use Rattle.tier0.proofs.projected.leashed.Goals as goal

pub returns-then-not-speed-z : goal.returns-then-not-speed-z
returns-then-not-speed-z c = leashed_off binary64 _ _ _ _ c.armed-speed.ensures (not-true _ (ap not c.if-not-speed-z.true))

pub returns : goal.returns
returns c = leashed_on binary64 _ _ _ _ c.armed-speed.ensures (not-false _ (ap not c.if-not-speed-z.false)) c.leash-most.ensures c.pulled.ensures
