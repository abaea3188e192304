-- `lictor::lictor_fill` meets its contract: the chunk is judged, and put into the buffer where it is not refused.
use mathlib.Core.Path.{◌∙◌}
use Rattle.refusal.specs.Chain.{number_is}
use Rattle.lictor.specs.Asked.{header_asked}
use Rattle.lictor.proofs.Alike.{filled_so}
use Rattle.lictor.proofs.lictor_fill.Goals as goal

pub returns : goal.returns
returns c =
    let g = c.args in
    filled_so g.numbers.now (header_asked g.seq g.t_emit g.horizon g.dim g.exec_steps) g.rows.now (c.number_of-number.ensures ∙ number_is c.lent_refusal.ensures) c.put_lent.ensures
