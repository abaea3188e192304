-- What the forecast is asked for a card is what the rule asks.
use Rattle.std.specs.Prelude.{Result}
use Rattle.refusal.specs.declared.Refusal.{Refusal}
use mathlib.Core.Path.{◌≡◌}
use mathlib.Core.List.{List, [], ◌∷◌}
use lib.ListN.{length, replicate}
use lib.Ieee.{Float, binary64}
use Rattle.checked.specs.Constants.{1! }
use Rattle.conformal.specs.Of.{tables}
use Rattle.envelope.specs.declared.FuseConfig.{FuseConfig}
use Rattle.brake.specs.Answer.{forecast_answer, forecast_slacks}
use Rattle.brake.specs.declared.BrakeOut.{BrakeOut}
use Rattle.card.specs.declared.record.Card.{Card}
use Rattle.card.specs.Desk.{num, config_of, four_rows, outcome_of, slacks_of}

pub ran : (c : Card) (old : List Float) {g : FuseConfig} {t : List Float} {p v r0 r1 r2 r3 : Float} {o : Result BrakeOut Refusal} {new : List Float}
    → g ≡ config_of c
    → t ≡ replicate 192 1!
    → p ≡ num c.p
    → v ≡ num c.v
    → r0 ≡ num c.row0
    → r1 ≡ num c.row1
    → r2 ≡ num c.row2
    → r3 ≡ num c.row3
    → (o ≡ forecast_answer binary64 g (tables t t) (p ∷ []) (v ∷ []) (r0 ∷ r1 ∷ r2 ∷ r3 ∷ []) four_rows c.from (length old))
    × (new ≡ forecast_slacks binary64 g (tables t t) (p ∷ []) (v ∷ []) (r0 ∷ r1 ∷ r2 ∷ r3 ∷ []) four_rows c.from old)
    → (o ≡ outcome_of c (length old)) × (new ≡ slacks_of c old)
unfolding outcome_of slacks_of
ran c old eg et ep ev e0 e1 e2 e3 h = rw (eg, et, ep, ev, e0, e1, e2, e3) at h
