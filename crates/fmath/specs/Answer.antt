-- What `sqrt`, `norm` and `dist` answer: a number, or why there is none.
use Rattle.refusal.specs.declared.Refusal.{Refusal}
use Rattle.std.specs.Prelude.{ℕ, zero, suc, Bool, true, false, not, ◌||◌, List, [], ◌∷◌, ltb, length, Float, Err, Ok, Result}
use Rattle.std.specs.Float.{Format, nan, inf, fin}
use Rattle.std.specs.Float.Ieee.{lt}
use Rattle.refusal.specs.Order.{short, not_finite, computed, ◌when◌, refusal, refused_for}
use Rattle.checked.specs.Finite.{+0, all_finite}
use Rattle.checked.specs.Checked.{root}
use Rattle.fmath.specs.Norm.{norm, dist}

-- a number where the refusal is 0
abbrev pub number_or : ℕ → Float → Result Float Refusal
number_or zero x = Ok x
number_or (suc k) x = Err (refused_for (suc k))

-- some of the numbers of a lent slice is not finite, read or not
abbrev pub some_not_finite : List Float → Bool
some_not_finite v = not (all_finite v (length v))

unfoldable pub some_from : Bool → List (List Float) → Bool
some_from b [] = b
some_from b (v ∷ l) = some_from (b || some_not_finite v) l

-- some number of some slices is not finite: `some_lent_not_finite (a ∷ b ∷ [])` computes to `some_not_finite a || some_not_finite b`
unfoldable pub some_lent_not_finite : List (List Float) → Bool
unfolding some_from
some_lent_not_finite [] = false
some_lent_not_finite (v ∷ l) = some_from (some_not_finite v) l

-- there is no root of a NaN, of an infinity, and of a number below zero
unfoldable pub no_root : Float → Bool
no_root nan = true
no_root (inf s) = true
no_root (fin s m e) = lt (fin s m e) +0

abbrev pub sqrt_answer : Format → Float → Result Float Refusal
sqrt_answer f x = number_or (refusal (computed when not (root f x).sound ∷ [])) (root f x).value

abbrev pub norm_answer : Format → List Float → ℕ → Result Float Refusal
norm_answer f v n =
    number_or
    (refusal (short when ltb (length v) n ∷ not_finite when some_not_finite v ∷ computed when not (norm f v n).sound ∷ []))
    (norm f v n).value

abbrev pub dist_answer : Format → List Float → List Float → ℕ → Result Float Refusal
dist_answer f a b n =
    number_or
    (refusal
    (short when (ltb (length a) n || ltb (length b) n)
    ∷ not_finite when (some_not_finite a || some_not_finite b)
    ∷ computed when not (dist f a b n).sound
    ∷ []))
    (dist f a b n).value
