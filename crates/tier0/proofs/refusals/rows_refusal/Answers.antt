-- `tier0::refusals::rows_refusal` meets its contract, by its three tests.
use Rattle.chunk.proofs.Rows.{place_small}
use native.Mathlib.Omega.{arith}
use Rattle.tier0.proofs.refusals.rows_refusal.Goals as goal

pub overflow_mul-h : goal.overflow_mul-h
overflow_mul-h c = let s = c.args in let h = place_small {k = s.header.horizon} {d = s.header.dim} (omega arith) (omega arith) in omega arith
