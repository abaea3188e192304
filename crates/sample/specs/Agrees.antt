-- What the contract of `sample` cites: when an answer agrees with the one that is kept.
use Rattle.std.specs.Prelude.{Bool, ◌&&◌, List, ℕ, eqb, length, Float}
use Rattle.std.specs.Float.Ieee.{eq}
use Rattle.checked.specs.Each.{at, all}

-- as many numbers, each equal by the format's equality, in which the two zeros are equal and a NaN equals nothing
unfoldable pub agrees : List Float → List Float → Bool
agrees kept got = eqb (length kept) (length got) && all (λ (j : ℕ). eq (at kept j) (at got j)) (length got)
