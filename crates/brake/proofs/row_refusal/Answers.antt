-- `brake::row_refusal` meets its contract: the configuration's number, then that of what is lent.
use Prim.Native.Nat.{ℕ}
use mathlib.Core.Path.{◌≡◌, ap, ◌∙◌}
use mathlib.Core.Bool.{Bool, ◌&&◌, ◌||◌}
use lib.Dec.{ltb}
use lib.Ieee.{binary64}
use Rattle.std.specs.Prelude.{⊤, Result, if◌then◌else◌}
use Rattle.refusal.specs.declared.Refusal.{Refusal}
use Rattle.refusal.specs.Order.{judged_by, refusal}
use Rattle.refusal.specs.Chain.{joined}
use Rattle.envelope.specs.Refusals.{config_judged}
use Rattle.envelope.specs.declared.FuseConfig.{FuseConfig}
use Rattle.brake.specs.Answer.{last_short, row_lent}
use Rattle.brake.proofs.row_refusal.Goals as goal

-- the tests of the lengths and of the numbers, one after the other
lent : (c : FuseConfig) (unfit : Bool) (room given : ℕ) {shorter : Bool} {m : Result ⊤ Refusal} → m ≡ judged_by (if shorter then 11 else (if unfit then 12 else 0)) → shorter ≡ (ltb room c.dim || last_short c.gripper c.dim given) → m ≡ judged_by (refusal (row_lent c unfit room given))
lent c unfit room given em es = em ∙ rw es

pub returns : goal.returns
unfolding last_short
returns c t e =
    let g = c.args in
    let short = ap (λ (b : Bool). ltb g.room g.c.dim || (b && ltb g.given g.c.dim)) c.takes_last.ensures in
    joined (config_judged binary64 g.c t) (row_lent g.c g.unfit g.room g.given) e (lent g.c g.unfit g.room g.given c.lengths_and_numbers.ensures short) c.or_later.ensures
