-- `conformal::trip` meets its contract, by what is judged.
use native.Mathlib.Omega.{arith}
use Rattle.std.specs.Prelude.{true, Ok}
use Rattle.refusal.specs.Chain.{refused_as, passed_as}
use Rattle.conformal.specs.Rule.{trips}
use Rattle.conformal.specs.Of.{tables}
use Rattle.conformal.specs.Answer.{judged, tripped}
use Rattle.conformal.proofs.trip.Goals as goal

pub returns-in_err-judge : goal.returns-in_err-judge
unfolding tripped
returns-in_err-judge c =
    let g = c.args in
    grind (arith, refused_as (judged g.cal (tables g.center.now g.scale.now) g.scores true) (Ok (trips g.cal.tau g.scores.s)) c.in_err-judge.ensures, c.from_residual.ensures)

pub returns : goal.returns
unfolding tripped
returns c = let g = c.args in passed_as (judged g.cal (tables g.center.now g.scale.now) g.scores true) (Ok (trips g.cal.tau g.scores.s)) c.in_ok-judge.ensures
