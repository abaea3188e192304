-- `ChunkBuf::held_refusal` meets its contract: nothing is judged where no chunk is held, else the sizes first, then the numbers.
use Prim.Native.Nat.{◌*◌}
use mathlib.Core.Path.{◌∙◌}
use mathlib.Core.Bool.{not}
use mathlib.Core.List.{[], ◌∷◌}
use native.Mathlib.Nat.{lt_of_le_of_lt, le_of_lt}
use borrow.Author.Rules.{rules}
use borrow.Author.Tests.{not-true, not-false}
use Rattle.checked.specs.Finite.{all_finite}
use Rattle.chunk.specs.Of.{held_refusal_of}
use Rattle.refusal.specs.Order.{not_finite, ◌when◌}
use Rattle.refusal.specs.Chain.{joined, alone}
use Rattle.chunk.specs.Refusals.{chunk_reasons}
use Rattle.chunk.proofs.Rows.{place_small}
use Rattle.chunk.proofs.ChunkBuf.held_refusal.Goals as goal

pub returns-then-not-self : goal.returns-then-not-self
unfolding held_refusal_of
returns-then-not-self c = rw (not-true c.args.self.filled c.if-not-self.true)

pub overflow_mul-n : goal.overflow_mul-n
overflow_mul-n c =
    let b = c.args.self in
    record { fits = lt_of_le_of_lt (le_of_lt (place_small {k = b.header.horizon} {d = b.header.dim} (search rules) (search rules))) (search rules) }

pub returns : goal.returns
unfolding held_refusal_of
returns c =
    let b = c.args.self in
    let n = b.header.horizon * b.header.dim in
    rw (not-false b.filled c.if-not-self.false)
    (joined (chunk_reasons b.header n) ((not_finite when not (all_finite b.«data» n)) ∷ []) c.chunk_refusal-sizes.ensures (alone not_finite (not (all_finite b.«data» n)) (c.when.ensures ∙ rw c.all_finite-fit.ensures)) c.or_later.ensures)
