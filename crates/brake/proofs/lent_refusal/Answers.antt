-- `brake::lent_refusal` meets its contract: the width first, then the lengths, then the numbers.
use mathlib.Core.Bool.{not}
use mathlib.Core.List.{[], ◌∷◌}
use mathlib.Core.Path.{◌∙◌}
use lib.Dec.{eqb}
use lib.Ieee.{binary64}
use Rattle.refusal.specs.Order.{width, short, not_finite, ◌when◌}
use Rattle.refusal.specs.Chain.{joined, alone}
use Rattle.brake.proofs.Judged.{brief_is}
use Rattle.brake.proofs.lent_refusal.Goals as goal

pub returns : goal.returns
returns c =
    let g = c.args in
    let brief = brief_is binary64 g.c g.pos.now g.vel.now g.rows.now g.header g.from g.room c.too_short-short.ensures c.entries-count.ensures in
    joined ((width when not (eqb g.header.dim g.c.dim)) ∷ []) ((short when _) ∷ (not_finite when _) ∷ []) (alone width (not (eqb g.header.dim g.c.dim)) c.when-width.ensures)
    (c.lengths_and_numbers.ensures ∙ rw (brief, c.some_not_finite-unfit.ensures)) c.or_later.ensures
