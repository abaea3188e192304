-- The refusals of the table (R0): their numbers, the order in which they are judged, and the answer, the first that applies.
use Rattle.std.specs.Prelude.{ℕ, zero, suc, ⊤, Result, Ok, Err, Bool, false, ◌||◌, List, [], ◌∷◌, eqb, if◌then◌else◌}
use Rattle.refusal.specs.declared.Refusal.{Refusal}

pub data Reason : Type 0 where
  size number steps channels shape withdrawn : Reason
  empty too_long too_wide exec_exceeds_horizon len_mismatch width : Reason
  short not_finite computed leftover : Reason

abbrev pub number_of : Reason → ℕ
number_of size = 1
number_of number = 2
number_of steps = 3
number_of channels = 4
number_of shape = 15
number_of withdrawn = 17
number_of empty = 5
number_of too_long = 6
number_of too_wide = 7
number_of exec_exceeds_horizon = 8
number_of len_mismatch = 9
number_of width = 10
number_of short = 11
number_of not_finite = 12
number_of computed = 13
number_of leftover = 14

-- the order of judging, which is not that of the numbers: 15 and 17 stand after 4
abbrev pub order : List Reason
order =
    size ∷ number ∷ steps ∷ channels ∷ shape ∷ withdrawn
    ∷ empty ∷ too_long ∷ too_wide ∷ exec_exceeds_horizon ∷ len_mismatch ∷ width
    ∷ short ∷ not_finite ∷ computed ∷ leftover ∷ []

-- the number of the first of some reasons that applies, and 0 where none does
abbrev pub first_of : (Reason → Bool) → List Reason → ℕ
first_of applies [] = 0
first_of applies (k ∷ l) = if applies k then number_of k else first_of applies l

-- the number that is given where these reasons apply
abbrev pub given : (Reason → Bool) → ℕ
given applies = first_of applies order

-- what an entry judges: a reason, and the condition under which it applies
infix 70 ◌when◌
pub data Judged : Type 0 where
  ◌when◌ : Reason → Bool → Judged

-- a reason applies at an entry where one of the conditions listed for it holds; one that is not listed never does
abbrev pub among : List Judged → Reason → Bool
among [] k = false
among ((r when b) ∷ l) k = if eqb (number_of r) (number_of k) then among l k || b else among l k

-- the number that an entry gives, from what it judges, in whatever order it lists it
abbrev pub refusal : List Judged → ℕ
refusal l = given (among l)

-- a reason applies where it does to either of two
infixr 20 ◌or◌
abbrev pub ◌or◌ : (Reason → Bool) → (Reason → Bool) → Reason → Bool
◌or◌ p q k = p k || q k

-- the reason that a number stands for
abbrev pub named : ℕ → Reason → Bool
named n k = eqb n (number_of k)

-- of two numbers the one that is judged first; 0 where neither stands for a reason
abbrev pub earlier : ℕ → ℕ → ℕ
earlier a b = given (named a or named b)

-- a refusal without a place
abbrev pub refused_for : ℕ → Refusal
refused_for n = record { number = n; place = 0 }

-- the refusal of a part, else what the parts judged after it come to
abbrev pub or_later : Result ⊤ Refusal → Result ⊤ Refusal → Result ⊤ Refusal
or_later (Ok x) later = later
or_later (Err r) later = Err r

-- the number of what is judged: 0 where nothing is refused
abbrev pub number_given : Result ⊤ Refusal → ℕ
number_given (Ok x) = 0
number_given (Err r) = r.number

-- what an entry answers by the number of its refusal: the refusal, and its own answer where the number is 0
abbrev pub answer_by : {A : Type 0} → (Refusal → A) → A → ℕ → A
answer_by refused answer zero = answer
answer_by refused answer (suc n) = refused (refused_for (suc n))

-- what is judged, by the number of the first reason that applies
abbrev pub judged_by : ℕ → Result ⊤ Refusal
judged_by n = answer_by Err (Ok tt) n

-- what it then leaves of what was lent: all as it was, and what it writes where the number is 0
abbrev pub left_by : {A : Type 0} → A → A → ℕ → A
left_by was written zero = written
left_by was written (suc n) = was
