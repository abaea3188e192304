-- What `features` and `reset` judge, argument by argument; a reason applies to a call where it does to one of its arguments.
use Rattle.std.specs.Prelude.{ℕ, Bool, false, not, ◌&&◌, ◌||◌, List, [], ◌∷◌, eqb, Float, if◌then◌else◌}
use Rattle.refusal.specs.Order.{Reason, width, not_finite, ◌when◌, among, ◌or◌}
use Rattle.fmath.specs.Answer.{some_not_finite}
use Rattle.checked.specs.Finite.{all_finite}
use Rattle.chunk.specs.Refusals.{chunk_reasons, held_reasons}
use Rattle.chunk.specs.declared.ChunkBuf.{ChunkBuf}
use Rattle.chunk.specs.declared.Header.{Header}
use Rattle.window.specs.Answer.{trail_reasons}
use Rattle.conformal.specs.Refusals.{scores_ok}
use Rattle.conformal.specs.declared.Scores.{Scores}
use Rattle.tier1.specs.declared.Tier1Rt.{Tier1Rt}

-- nothing is judged
abbrev pub none : Reason → Bool
none k = false

-- 5 to 10: a new chunk of n numbers, where there is one
abbrev pub new_judged : Bool → Header → ℕ → ℕ → Reason → Bool
new_judged there k n dim =
    if there
    then among (chunk_reasons k n) or among ((width when not (eqb k.dim dim)) ∷ [])
    else none

-- 5 to 9 and 12: the chunk before, where the buffer holds one
abbrev pub prev_judged : ChunkBuf → Reason → Bool
prev_judged b = if b.filled then among (held_reasons b.«data» b.header) else none

-- the state: 1 and 12 for the trail, the chunk before, 12 for the held features
abbrev pub state_judged : Tier1Rt → Reason → Bool
state_judged rt = among (trail_reasons rt.trail) or (prev_judged rt.prev or among ((not_finite when not (all_finite rt.held 6)) ∷ []))

-- some number of the position, the external scalars, the rows of a new chunk or the scores is not finite
unfoldable pub some_not_finite_in : List Float → List Float → Bool → List Float → Scores → Bool
some_not_finite_in p ext there rows sc = some_not_finite p || some_not_finite ext || (there && some_not_finite rows) || not (scores_ok sc)

-- 12: what is lent, read or not
abbrev pub lent_judged : List Float → List Float → Bool → List Float → Scores → Reason → Bool
lent_judged p ext there rows sc = among ((not_finite when some_not_finite_in p ext there rows sc) ∷ [])
