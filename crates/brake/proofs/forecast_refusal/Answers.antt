-- `brake::forecast_refusal` meets its contract: the configuration's number, then the sizes', then that of what is lent.
use lib.Ieee.{binary64}
use Rattle.brake.proofs.Judged.{before_is}
use Rattle.brake.proofs.forecast_refusal.Goals as goal

pub returns : goal.returns
returns c t e =
    let g = c.args in
    before_is binary64 g.c t g.pos.now g.vel.now g.rows.now g.header g.from g.room e c.chunk_refusal-sizes.ensures c.lent_refusal-lent.ensures c.or_later.ensures c.or_later-2.ensures
