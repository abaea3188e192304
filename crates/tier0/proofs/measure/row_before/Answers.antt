-- `tier0::measure::row_before` meets its contract, for row 0 and for a later one.
use Rattle.tier0.proofs.Rows.{before_first_lem, before_later}
use Rattle.tier0.proofs.measure.row_before.Goals as goal

pub returns-then-i-eq0 : goal.returns-then-i-eq0
returns-then-i-eq0 c = before_first_lem _ _ _ _ c.if-i-eq0.true

pub returns : goal.returns
returns c = before_later _ _ _ _ c.if-i-eq0.false c.raw_row.ensures
