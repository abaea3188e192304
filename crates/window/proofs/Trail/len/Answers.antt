-- `Trail::len` meets its contract, by what is judged of the trail.
use native.Mathlib.Omega.{arith}
use Rattle.std.specs.Prelude.{Ok}
use Rattle.refusal.specs.Order.{refusal}
use Rattle.refusal.specs.Chain.{refused_as, passed_as}
use Rattle.window.specs.Answer.{trail_reasons, count_of}
use Rattle.window.proofs.Trail.len.Goals as goal

pub returns-in_err-trail : goal.returns-in_err-trail
unfolding count_of
returns-in_err-trail c = grind (arith, refused_as (refusal (trail_reasons c.args.self)) (Ok c.args.self.len) c.in_err-trail.ensures, c.from_residual.ensures)

pub returns : goal.returns
unfolding count_of
returns c = passed_as (refusal (trail_reasons c.args.self)) (Ok c.args.self.len) c.in_ok-trail.ensures
