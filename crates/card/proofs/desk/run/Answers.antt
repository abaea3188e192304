-- `card::desk::run` meets its contract: the forecast is asked what the rule asks.
use Rattle.card.proofs.Asked.{ran}
use Rattle.card.proofs.desk.run.Goals as goal

pub returns : goal.returns
returns c =
    let g = c.args in
    ran g.c g.slack.now c.configure-config.ensures c.table-table.ensures c.float_of.ensures c.float_of-2.ensures c.float_of-r0.ensures c.float_of-r1.ensures c.float_of-r2.ensures c.float_of-r3.ensures c.brake_feasible.ensures
