-- The rules of a chunk's rows (R2), over the list of a chunk's numbers, horizon h and dim d.
use Rattle.std.specs.Prelude.{ℕ, ◌+◌, ◌-◌, ◌*◌, min, Bool, ◌&&◌, not, List, [], eqb, leb, Float, length, take, drop, if◌then◌else◌}
use Rattle.std.proofs.Math.Seq.{paste}

-- the row that an index names: at or past the horizon, the last
abbrev pub row_index : ℕ → ℕ → ℕ
row_index h i = min i (h - 1)

-- where that row starts
abbrev pub row_start : ℕ → ℕ → ℕ → ℕ
row_start h d i = row_index h i * d

-- there are rows, and that one does not run past n numbers
abbrev pub row_within : ℕ → ℕ → ℕ → ℕ → Bool
row_within n h d i = not (eqb h 0) && leb (row_start h d i + d) n

-- there are rows, and that one does not run past the numbers of a list
abbrev pub row_in : List Float → ℕ → ℕ → ℕ → Bool
row_in l h d i = row_within (length l) h d i

-- row i: the part from its start, d long, or an empty one
unfoldable pub row_of : List Float → ℕ → ℕ → ℕ → List Float
row_of l h d i = if row_in l h d i then take d (drop (row_start h d i) l) else []

-- the numbers with row i overwritten from its start by those of r, as many as both have
unfoldable pub row_set : List Float → ℕ → ℕ → ℕ → List Float → List Float
row_set l h d i r = if row_in l h d i then paste l (row_start h d i) r (min d (length r)) else l

-- the rows of a held chunk: its first h x d numbers, none where no chunk is held
unfoldable pub held_rows : List Float → ℕ → ℕ → Bool → List Float
held_rows l h d filled = if filled && leb (h * d) (length l) then take (h * d) l else []
