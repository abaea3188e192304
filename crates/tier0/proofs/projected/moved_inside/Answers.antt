-- `tier0::projected::moved_inside` meets its contract: passed over, or made.
use lib.Ieee.{binary64}
use Rattle.tier0.proofs.Steps.{moved_inside_off, moved_inside_on}
use Rattle.tier0.proofs.projected.moved_inside.Goals as goal

pub returns-then-inside-armed : goal.returns-then-inside-armed
returns-then-inside-armed c = moved_inside_off binary64 _ _ c.armed.ensures _ c.requires c.if-inside-armed.true

pub returns : goal.returns
returns c = moved_inside_on binary64 _ _ c.armed.ensures c.args.inside c.if-inside-armed.false c.box_dims-n.ensures c.inward.ensures
