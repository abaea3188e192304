-- What the rules say of each number below n, of every test of a list, and of the entries of a list.
use Rattle.std.specs.Prelude.{ℕ, zero, suc, ◌<◌, ◌≡◌, Bool, true, false, ◌&&◌, ◌||◌, List, [], ◌∷◌, ◌++◌, get_or, set, Float}
use Rattle.std.specs.Float.{nan}

-- entry j of a list; one that is not there is no number
abbrev pub at : List Float → ℕ → Float
at l j = get_or l j nan

-- p holds of 0, .., n - 1
unfoldable pub all : (ℕ → Bool) → ℕ → Bool
all p zero = true
all p (suc n) = all p n && p n

-- p holds of one of 0, .., n - 1
unfoldable pub some : (ℕ → Bool) → ℕ → Bool
some p zero = false
some p (suc n) = some p n || p n

-- an index below n of which p and Q hold
pub record Among (p : ℕ → Bool) (n : ℕ) (Q : ℕ → Type 0) : Type 0 where
  pub index : ℕ
  pub within : index < n
  pub holds : p index ≡ true
  pub such : Q index

unfoldable pub every_from : Bool → List Bool → Bool
every_from a [] = a
every_from a (b ∷ l) = every_from (a && b) l

-- each test of a list holds: `every (a ∷ b ∷ c ∷ [])` computes to `a && b && c`
unfoldable pub every : List Bool → Bool
unfolding every_from
every [] = true
every (a ∷ l) = every_from a l

-- the values of g at 0, .., n - 1, in a list
unfoldable pub table : (ℕ → Float) → ℕ → List Float
table g zero = []
table g (suc n) = table g n ++ (g n ∷ [])

-- l with the values of g at 0, .., n - 1 put over it
unfoldable pub over : (ℕ → Float) → List Float → ℕ → List Float
over g l zero = l
over g l (suc n) = set (over g l n) n (g n)
