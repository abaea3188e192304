-- What the two entries judge besides the configuration, and the answer.
use Rattle.refusal.specs.declared.Refusal.{Refusal}
use Rattle.std.specs.Prelude.{ℕ, Bool, ◌||◌, List, ltb, Float, Ok, Err, Result}
use Rattle.refusal.specs.Order.{answer_by, left_by}
use Rattle.checked.specs.Each.{at, over}
use Rattle.tier0.specs.declared.Tier0Out.{Tier0Out}
use Rattle.workspace.specs.declared.WallMasks.{WallMasks}
use Rattle.tier0.specs.Rule.{Judgement}

-- 11: the position below pos_dim; the predecessor, the action or the output below dim
unfoldable pub too_short : ℕ → ℕ → ℕ → ℕ → ℕ → ℕ → Bool
too_short dim pos-dim p prev a room = ltb p pos-dim || ltb prev dim || ltb a dim || ltb room dim

-- 11 for a chunk: the position below pos_dim, or the output below horizon x dim
unfoldable pub chunk_too_short : ℕ → ℕ → ℕ → ℕ → Bool
chunk_too_short pos-dim p size room = ltb p pos-dim || ltb room size

-- a check that passes, with what it found
abbrev pub passed_with : ℕ → ℕ → Float → WallMasks → Result Tier0Out Refusal
passed_with trips dims speed walls = Ok (record { trips = trips; clamped_dims = dims; peak_speed = speed; walls = walls })

abbrev pub passed_for : Judgement → Result Tier0Out Refusal
passed_for j = passed_with j.trips j.after.mask j.peak j.walls

-- the judgement where the refusal is 0
abbrev pub answer_at : ℕ → Judgement → Result Tier0Out Refusal
answer_at n j = answer_by Err (passed_for j) n

-- the first k numbers of the projected rows over the output, where the refusal is 0; the rest stays
abbrev pub out_at : ℕ → Judgement → ℕ → List Float → List Float
out_at n j k l = left_by l (over (at j.after.rows) l k) n
