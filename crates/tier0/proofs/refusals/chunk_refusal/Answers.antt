-- `tier0::refusals::chunk_refusal` meets its contract: the configuration's number, then the sizes', then that of what is lent.
use Rattle.tier0.proofs.ChunkRefused.{before_is}
use lib.Ieee.{binary64}
use Rattle.tier0.proofs.refusals.chunk_refusal.Goals as goal

pub returns : goal.returns
returns c t e =
    let g = c.args in
    before_is binary64 g.c t g.pos.now g.aux.now g.rows.now g.header g.room e c.chunk_refusal-sizes.ensures c.rows_refusal-lent.ensures c.or_later.ensures c.or_later-2.ensures
