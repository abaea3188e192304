-- What the contracts of `input` cite: what the answers of reads decide.
use Rattle.std.specs.Prelude.{◌≡◌, Bool, true, false, cond, ◌&&◌, List, [], ◌∷◌, ℕ, ◌+◌, ◌-◌, ◌%◌, ◌≤◌, ◌<◌, ltb, ℤ, pos, negsuc, length, take, Option, Result, Ok, Err}
use Rattle.std.specs.Io.KnownBytes.{IsAtEnd}
use Rattle.input.specs.declared.Filled.{Filled}

-- what a read answered, as one number: -1 where it failed, else how many bytes it gave, 0 at the end of the input
unfoldable pub answer : {E : Type 0} → Result ℕ E → ℤ
answer (Ok n) = pos n
answer (Err e) = negsuc 0

unfoldable pub failed : ℤ → Bool
failed (pos k) = false
failed (negsuc k) = true

unfoldable pub given : ℤ → ℕ
given (pos k) = k
given (negsuc k) = 0

-- a block that held n bytes, after a read with this answer
unfoldable pub after : ℕ → ℤ → Filled
after n got = record { n = n + given got; more = given got; failed = failed got }

-- a read with some answer: what it gave stands behind the n bytes before it, and they stay as they were
pub record Read (n : ℕ) (old new : List ℕ) (f : Filled) : Type 0 where
  pub got : ℤ
  pub is : f ≡ after n got
  pub fits : f.n ≤ length new
  pub same : length new ≡ length old
  pub kept : take n new ≡ take n old

-- the next read is made while there is room and the last one gave something
unfoldable pub reads_on : Filled → ℕ → Bool
reads_on f room = ltb f.n room && ltb 0 f.more

-- an empty block after reads with these answers, the last of them first
unfoldable pub after_all : List ℤ → Filled
after_all [] = record { n = 0; more = 1; failed = false }
after_all (got ∷ before) = after (after_all before).n got

-- a block is what reads with some answers made of an empty one
pub record Told (f : Filled) : Type 0 where
  pub answers : List ℤ
  pub is : f ≡ after_all answers

-- a block that reads have filled as far as it can be
pub record Fills (room : ℕ) (f : Filled) : Type 0 where
  pub told : Told f
  pub fits : f.n ≤ room
  pub ends : reads_on f room ≡ false

-- a read that gave nothing and did not fail leaves a reader of known bytes at its end
abbrev pub HasEnded : Filled → Option (List ℕ) → Type 0
HasEnded f known = f.failed ≡ false → f.more ≡ 0 → IsAtEnd known

-- a block that is not full, where no read failed, leaves a reader of known bytes at its end
abbrev pub EndsShort : ℕ → Filled → Option (List ℕ) → Type 0
EndsShort room f known = f.failed ≡ false → f.n < room → IsAtEnd known

-- how many of a block's bytes are answered: all or, where a read failed, its whole records of so many bytes, since the input has not ended
unfoldable pub answered : Filled → ℕ → ℕ
answered f size = cond (f.failed && ltb 0 size) (f.n - f.n % size) f.n
