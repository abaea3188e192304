-- `brake::run_refusal` meets its contract: the configuration's number, then that of what is lent.
use mathlib.Core.Path.{ap}
use mathlib.Core.Bool.{Bool, ◌||◌}
use lib.Dec.{ltb}
use lib.ListN.{length}
use lib.Ieee.{binary64}
use Rattle.brake.specs.Towards.{run_short}
use Rattle.brake.proofs.Towards.{before_is}
use Rattle.brake.proofs.run_refusal.Goals as goal

pub returns : goal.returns
unfolding run_short
returns c t e =
    let g = c.args in
    let short = ap (λ (b : Bool). ltb (length g.setpoint.now) g.c.dim || b) c.too_short-brief.ensures in
    before_is binary64 g.c t g.setpoint.now g.pos.now g.vel.now g.n g.room e c.lengths_and_numbers.ensures short c.some_not_finite-unfit.ensures c.or_later.ensures
