-- `chunk::row_start` meets its contract: a place in the rows is a product of two numbers of 16 bits, so it fits.
use Prim.Native.Nat.{ℕ, ◌*◌}
use mathlib.Core.Path.{ap}
use native.Mathlib.Nat.{lt_of_le_of_lt, le_of_lt}
use borrow.Author.Rules.{rules}
use Rattle.chunk.proofs.Rows.{place_small}
use Rattle.chunk.proofs.row_start.Goals as goal

pub overflow_mul-result : goal.overflow_mul-result
overflow_mul-result c = record { fits = lt_of_le_of_lt (le_of_lt (place_small {k = c.fewer.result} (search rules) (search rules))) (search rules) }

pub returns : goal.returns
returns c = ap (λ (k : ℕ). k * c.args.dim) c.fewer.ensures
