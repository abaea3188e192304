-- `ChunkBuf::is_filled` meets its contract, by what is judged of the held chunk.
use native.Mathlib.Omega.{arith}
use Rattle.std.specs.Prelude.{Ok}
use Rattle.refusal.specs.Chain.{refused_as, passed_as}
use Rattle.chunk.specs.Of.{holding_of, held_refusal_of}
use Rattle.chunk.proofs.ChunkBuf.is_filled.Goals as goal

pub returns-in_err-held_refusal : goal.returns-in_err-held_refusal
unfolding holding_of
returns-in_err-held_refusal c = grind (arith, refused_as (held_refusal_of c.args.self) (Ok c.args.self.filled) c.in_err-held_refusal.ensures, c.from_residual.ensures)

pub returns : goal.returns
unfolding holding_of
returns c = passed_as (held_refusal_of c.args.self) (Ok c.args.self.filled) c.in_ok-held_refusal.ensures
