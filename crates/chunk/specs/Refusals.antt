-- What a chunk is refused for, by its header k.
use Rattle.std.specs.Prelude.{ℕ, ◌*◌, ◌||◌, not, List, [], ◌∷◌, ◌++◌, eqb, ltb, Float, length}
use Rattle.fmath.specs.Answer.{some_not_finite}
use Rattle.checked.specs.Finite.{all_finite}
use Rattle.refusal.specs.Order.{Judged, ◌when◌, empty, too_long, too_wide, exec_exceeds_horizon, len_mismatch, not_finite}
use Rattle.chunk.specs.declared.Header.{Header}

-- the reasons 5 to 9, for rows of n numbers
abbrev pub chunk_reasons : Header → ℕ → List Judged
chunk_reasons k n =
    empty when (eqb k.horizon 0 || eqb k.dim 0)
    ∷ too_long when ltb 64 k.horizon
    ∷ too_wide when ltb 8 k.dim
    ∷ exec_exceeds_horizon when ltb k.horizon k.exec_steps
    ∷ len_mismatch when not (eqb n (k.horizon * k.dim))
    ∷ []

-- what is judged of a lent chunk: its sizes, and 12 for the rows themselves
abbrev pub lent_reasons : List Float → Header → List Judged
lent_reasons l k = chunk_reasons k (length l) ++ (not_finite when some_not_finite l ∷ [])

-- the same for the first horizon x dim numbers of a buffer
abbrev pub held_reasons : List Float → Header → List Judged
held_reasons l k = chunk_reasons k (k.horizon * k.dim) ++ (not_finite when not (all_finite l (k.horizon * k.dim)) ∷ [])
