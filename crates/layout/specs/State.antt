-- Tier 1's state in flat arrays: the chunk before in 512 numbers and 6 counts, the trail in 256 numbers and 2 counts, the 6 held features with 2 counts, have_prev and held_valid.
use Rattle.std.specs.Prelude.{ℕ, Bool, List, [], ◌∷◌, leb, eqb, Float}
use Rattle.checked.specs.Each.{every}
use Rattle.window.specs.Rule.{flag}
use Rattle.tier1.specs.declared.Tier1Rt.{Tier1Rt}
use Rattle.layout.specs.Places.{count, long, in32}
use Rattle.layout.specs.Chunk.{header_fits, chunk_of}
use Rattle.layout.specs.Trail.{trail_of}

-- the chunk's counts fit, have_prev is a flag and held_valid fits; row 1 refuses the trail's counts that do not
unfoldable pub state_fits : List ℕ → List ℕ → Bool
state_fits h c = every (header_fits h ∷ leb (count c 0) 1 ∷ long (count c 1) ∷ [])

-- the state that the arrays stand for
unfoldable pub state_of : List Float → List ℕ → List Float → List ℕ → List Float → List ℕ → Tier1Rt
state_of l h p t f c = record {
  prev = chunk_of l h;
  have_prev = eqb (count c 0) 1;
  trail = trail_of p t;
  held = f;
  held_valid = in32 (count c 1);
}

-- the counts of the held features, laid out
abbrev pub held_marks : Bool → ℕ → List ℕ
held_marks have bits = flag have ∷ bits ∷ []
