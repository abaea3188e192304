-- The answers: the number of the table (R0) and the values, for each case.
use Rattle.refusal.specs.declared.Refusal.{Refusal}
use Rattle.std.specs.Prelude.{ℕ, Bool, not, ◌||◌, List, [], ◌∷◌, eqb, ltb, Float, if◌then◌else◌, Err, Ok, Result}
use Rattle.std.specs.Float.{Format}
use Rattle.refusal.specs.Order.{Judged, number_of, ◌when◌, size, not_finite, computed, refusal, refused_for, answer_by}
use Rattle.fmath.specs.Answer.{number_or, some_not_finite}
use Rattle.checked.specs.Finite.{finite, all_finite}
use Rattle.checked.specs.Checked.{Checked}
use Rattle.window.specs.declared.Trail.{Trail}
use Rattle.window.specs.Rule.{mask_for, mask_refusal, net, path}

-- the mask of a length that is not refused
abbrev pub mask_of : ℕ → Result ℕ Refusal
mask_of n = if eqb (mask_refusal n) 0 then Ok (mask_for n) else Err (refused_for (mask_refusal n))

-- a trail's head or count is out of size
abbrev pub out_of_size : Trail → Bool
out_of_size t = ltb 31 t.head || ltb 32 t.len

-- some of its numbers, held or not, is not finite
abbrev pub unfit : Trail → Bool
unfit t = not (all_finite t.buf 256)

-- what every entry that takes a trail judges
abbrev pub trail_reasons : Trail → List Judged
trail_reasons t = size when out_of_size t ∷ not_finite when unfit t ∷ []

-- what an entry judges that takes a trail and a lent position
abbrev pub push_reasons : Trail → List Float → List Judged
push_reasons t p = size when out_of_size t ∷ not_finite when (unfit t || some_not_finite p) ∷ []

-- what an entry answers that takes a trail and computes a number from it
abbrev pub computed_from : Trail → Checked Float → Result Float Refusal
computed_from t x = number_or (refusal (size when out_of_size t ∷ not_finite when unfit t ∷ computed when not x.sound ∷ [])) x.value

-- what `net` answers
unfoldable pub net_of : Format → Trail → ℕ → ℕ → Result Float Refusal
net_of f t d w = computed_from t (net f t.buf t.head t.len d w)

-- what `path` answers
unfoldable pub path_of : Format → Trail → ℕ → ℕ → Result Float Refusal
path_of f t d w = computed_from t (path f t.buf t.head t.len d w)

-- a number after some checks, which give n, and a last one that it is finite
abbrev pub number_after : ℕ → Float → Result Float Refusal
number_after n x = number_or (if eqb n 0 then (if finite x then 0 else number_of computed) else n) x

-- how many samples a trail holds
unfoldable pub count_of : Trail → Result ℕ Refusal
count_of t = answer_by Err (Ok t.len) (refusal (trail_reasons t))

-- whether a trail holds none
unfoldable pub emptiness_of : Trail → Result Bool Refusal
emptiness_of t = answer_by Err (Ok (eqb t.len 0)) (refusal (trail_reasons t))
