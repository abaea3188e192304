-- `conformal::time_bin` meets its contract: by the test on the horizon, and since the rule's case for tick 0 is no exception.
use Rattle.std.specs.Prelude.{Ok}
use mathlib.Core.Path.{sym, ap}
use borrow.Author.Tests.{eq-eqb, ne_eqb}
use Rattle.conformal.specs.Answer.{time_bin_of}
use Rattle.conformal.specs.Rule.{bin_at}
use Rattle.conformal.proofs.Bins.{no_exception}
use Rattle.conformal.proofs.time_bin.Goals as goal

pub returns-then-horizon_ticks-eq0 : goal.returns-then-horizon_ticks-eq0
unfolding time_bin_of
returns-then-horizon_ticks-eq0 c = rw (c.of.ensures, eq-eqb _ _ c.if-horizon_ticks-eq0.true)

pub returns : goal.returns
unfolding time_bin_of bin_at
returns c =
    let tested = c in
    let a = tested.args in
    rw (ne_eqb _ _ tested.if-horizon_ticks-eq0.false, c.last_bin.ensures, c.ticks_before-before.ensures) (ap Ok (sym (no_exception a.t a.horizon_ticks)))
