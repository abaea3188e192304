-- `tier0::trips::out_of_reach` meets its contract, armed or not.
use mathlib.Core.Bool.{not}
use mathlib.Core.Path.{ap}
use borrow.Author.Tests.{not-true, not-false}
use lib.Ieee.{binary64}
use Rattle.tier0.proofs.Steps.{reach_off, reach_on}
use Rattle.tier0.proofs.trips.out_of_reach.Goals as goal

pub returns-then-not-armed : goal.returns-then-not-armed
returns-then-not-armed c = reach_off binary64 _ _ _ c.armed.ensures (not-true _ (ap not c.if-not-armed.true))

pub returns : goal.returns
returns c = reach_on binary64 _ _ _ c.armed.ensures (not-false _ (ap not c.if-not-armed.false)) c.box_dims-n.ensures c.distance-far.ensures c.finite-sound.ensures
