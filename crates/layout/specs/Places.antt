-- Numbers and counts by their place in a flat array.
use Rattle.std.specs.Prelude.{ℕ, ◌+◌, min, Bool, List, leb, get_or, Float}
use Rattle.checked.specs.Each.{at, table}

-- the count at a place
abbrev pub count : List ℕ → ℕ → ℕ
count l i = get_or l i 0

-- n numbers from a place
abbrev pub part : List Float → ℕ → ℕ → List Float
part l start n = table (λ (i : ℕ). at l (start + i)) n

-- a count in a field of 8, 16 or 32 bits; one that does not fit becomes the field's largest
abbrev pub in8 : ℕ → ℕ
in8 x = min x 255

abbrev pub in16 : ℕ → ℕ
in16 x = min x 65535

abbrev pub in32 : ℕ → ℕ
in32 x = min x 4294967295

-- whether a count fits a field of 16 bits, or of 32
abbrev pub short : ℕ → Bool
short x = leb x 65535

abbrev pub long : ℕ → Bool
long x = leb x 4294967295
