-- `brake::brake_feasible` meets its contract: refused by what is judged before anything is computed, or the forecast's own outcome.
use mathlib.Core.Path.{◌≡◌, ap, ◌∙◌, refl}
use Prim.Native.Nat.{ℕ}
use lib.ListN.{length}
use lib.Ieee.{binary64}
use Rattle.refusal.specs.Order.{refused_for}
use Rattle.refusal.specs.Chain.{refuses_by, passes_by}
use Rattle.refusal.specs.declared.Refusal.{Refusal}
use Rattle.conformal.specs.Of.{tables}
use Rattle.envelope.proofs.Accepted.{compiled_judged, compiled_derived}
use Rattle.brake.specs.Of.{workspace_from}
use Rattle.brake.proofs.Judged.{refused, planned, foreseen}
use Rattle.brake.proofs.brake_feasible.Goals as goal

-- the refusal that is handed on, or one made of its number alone
made_of : {why r : Refusal} {n : ℕ} → why ≡ refused_for n → r ≡ refused_for why.number → r ≡ refused_for n
made_of e h = h ∙ ap (λ (why : Refusal). refused_for why.number) e

pub returns-in-Err : goal.returns-in-Err
returns-in-Err c =
    let g = c.args in
    let t = tables g.center.now g.scale.now in
    let why = refuses_by (c.forecast_refusal.ensures _ (compiled_judged c.compile-compiled.ensures)) c.in-Err.is in
    let w = refused binary64 g.c t g.pos.now g.vel.now g.rows.now g.header g.from g.slack.now refl why.0 (search (why.1, made_of)) in
    (w.gives, w.leaves)

pub forecast-requires : goal.forecast-requires
forecast-requires c =
    let g = c.args in
    let t = tables g.center.now g.scale.now in
    let e = passes_by (c.forecast_refusal.ensures _ (compiled_judged c.compile-compiled.ensures)) c.in-Ok.is in (
      planned binary64 g.c t g.pos.now g.vel.now g.rows.now g.header g.from (length g.slack.now) e,
      c.workspace_of-w.ensures ∙ ap (workspace_from g.c.shape) (compiled_derived c.compile-compiled.ensures),
    )

pub returns-in-Ok : goal.returns-in-Ok
returns-in-Ok c =
    let g = c.args in
    let t = tables g.center.now g.scale.now in
    let e = passes_by (c.forecast_refusal.ensures _ (compiled_judged c.compile-compiled.ensures)) c.in-Ok.is in
    let w = foreseen binary64 g.c t g.pos.now g.vel.now g.rows.now g.header g.from g.slack.now e c.forecast.ensures.0 c.forecast.ensures.1 in
    (w.gives, w.leaves)
