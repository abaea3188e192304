-- A trail in flat arrays: its 256 numbers; 2 counts, head and len.
use Rattle.std.specs.Prelude.{ℕ, List, [], ◌∷◌, Float}
use Rattle.window.specs.declared.Trail.{Trail}
use Rattle.layout.specs.Places.{count, in8}

-- the trail that the arrays stand for; row 1 refuses a count that does not fit
unfoldable pub trail_of : List Float → List ℕ → Trail
trail_of l c = record { buf = l; head = in8 (count c 0); len = in8 (count c 1) }

-- a trail's counts, laid out
abbrev pub trail_marks : Trail → List ℕ
trail_marks t = t.head ∷ t.len ∷ []
