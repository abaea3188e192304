-- Scores in flat arrays: 25 numbers, f 12, z 12 and s; 2 counts, valid and fired.
use Rattle.std.specs.Prelude.{ℕ, Bool, List, [], ◌∷◌, ◌++◌, Float}
use Rattle.checked.specs.Each.{at, every}
use Rattle.conformal.specs.declared.Scores.{Scores}
use Rattle.layout.specs.Places.{count, part, in32, long}

-- each count fits its field; the table has no row for them
unfoldable pub marks_fit : List ℕ → Bool
marks_fit c = every (long (count c 0) ∷ long (count c 1) ∷ [])

-- the scores that the arrays stand for
unfoldable pub scores_of : List Float → List ℕ → Scores
scores_of l c = record { f = part l 0 12; z = part l 12 12; s = at l 24; valid = in32 (count c 0); fired = in32 (count c 1) }

-- scores, laid out
unfoldable pub scores_flat : Scores → List Float
scores_flat sc = part sc.f 0 12 ++ part sc.z 0 12 ++ (sc.s ∷ [])

abbrev pub marks_flat : Scores → List ℕ
marks_flat sc = sc.valid ∷ sc.fired ∷ []
