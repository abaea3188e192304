-- `chunk::lent_refusal` meets its contract: the sizes' number, then that of the rows' numbers.
use mathlib.Core.Path.{◌∙◌}
use mathlib.Core.List.{[], ◌∷◌}
use lib.ListN.{length}
use Rattle.refusal.specs.Order.{not_finite, ◌when◌}
use Rattle.refusal.specs.Chain.{joined, alone}
use Rattle.fmath.specs.Answer.{some_not_finite}
use Rattle.chunk.specs.Refusals.{chunk_reasons}
use Rattle.chunk.proofs.lent_refusal.Goals as goal

pub returns : goal.returns
returns c =
    let s = c.args in
    joined (chunk_reasons s.header (length s.rows.now)) ((not_finite when some_not_finite s.rows.now) ∷ []) c.chunk_refusal-sizes.ensures (alone not_finite (some_not_finite s.rows.now) (c.when.ensures ∙ rw c.all_finite-fit.ensures)) c.or_later.ensures
