-- Checked arithmetic: a value, and whether each number that was computed on the way to it is finite. Refusal 13 is `sound` being false.
use Rattle.std.specs.Prelude.{ℕ, zero, suc, Bool, true, ◌&&◌, List, set, Float}
use Rattle.std.specs.Float.{Format}
use Rattle.std.specs.Float.Ieee.{add, sub, mul, div}
use Rattle.root.specs.Root.{root_of}
use Rattle.checked.specs.Each.{all}
use Rattle.checked.specs.Finite.{finite}
use Rattle.checked.specs.Least.{least}

pub record Checked (A : Type 0) : Type 0 where
  pub value : A
  pub sound : Bool

-- nothing is computed
abbrev pub pure : {A : Type 0} → A → Checked A
pure a = record { value = a; sound = true }

-- a number that is computed
abbrev pub checked : Float → Checked Float
checked x = record { value = x; sound = finite x }

-- first m, then k of its value: sound where both are
infixl 10 ◌>>=◌
abbrev pub ◌>>=◌ : {A B : Type 0} → Checked A → (A → Checked B) → Checked B
m >>= k = record { value = (k m.value).value; sound = m.sound && (k m.value).sound }

abbrev pub plus : Format → Float → Float → Checked Float
plus f x y = checked (add f x y)

abbrev pub minus : Format → Float → Float → Checked Float
minus f x y = checked (sub f x y)

abbrev pub times : Format → Float → Float → Checked Float
times f x y = checked (mul f x y)

abbrev pub divided : Format → Float → Float → Checked Float
divided f x y = checked (div f x y)

abbrev pub root : Format → Float → Checked Float
root f x = checked (root_of f x)

-- g at 0, .., n - 1, summed from z, left to right
unfoldable pub sum_from : Format → Float → (ℕ → Checked Float) → ℕ → Checked Float
sum_from f z g zero = pure z
sum_from f z g (suc j) = do
  s ← sum_from f z g j
  x ← g j
  plus f s x

-- l with g at 0, .., n - 1 put over it
unfoldable pub each : (ℕ → Checked Float) → List Float → ℕ → Checked (List Float)
each g l zero = pure l
each g l (suc j) = do
  k ← each g l j
  x ← g j
  pure (set k j x)

-- the least of g at 0, .., n - 1, each of which is computed; the infinity that it starts from is not
unfoldable pub least_of : (ℕ → Checked Float) → ℕ → Checked Float
least_of g n = record { value = least (λ (j : ℕ). (g j).value) n; sound = all (λ (j : ℕ). (g j).sound) n }
