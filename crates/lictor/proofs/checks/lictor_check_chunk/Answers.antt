-- `lictor::checks::lictor_check_chunk` meets its contract: it hands on the answer of its entry, where the counts fit.
use mathlib.Core.Bool.{not}
use mathlib.Core.Path.{ap}
use borrow.Author.Tests.{not-true, not-false}
use Rattle.conformal.specs.Of.{tables}
use Rattle.lictor.proofs.Alike.{check_misfit, check_fits, chunk_alike}
use Rattle.lictor.specs.Asked.{sizes_asked}
use Rattle.lictor.proofs.checks.lictor_check_chunk.Goals as goal

pub returns-then-not-fits : goal.returns-then-not-fits
returns-then-not-fits c = check_misfit (not-true _ (ap not c.if-not-fits.true)) c.counts_fit-fits.ensures

pub returns : goal.returns
returns c = let s = c.args in check_fits (not-false _ (ap not c.if-not-fits.false)) c.counts_fit-fits.ensures (chunk_alike (tables s.center.now s.scale.now) s.pos.now s.aux.now s.rows.now (sizes_asked s.horizon s.dim s.exec_steps) s.out.now c.check_chunk-a.ensures c.config_of-c.ensures) c.put_check.ensures
