-- What the contracts of `card::block` cite: the lines of a block of records.
use Rattle.std.specs.Prelude.{◌≡◌, Bool, ◌&&◌, List, [], ◌∷◌, ◌++◌, ℕ, zero, suc, ◌+◌, ◌-◌, ◌*◌, ◌/◌, ◌%◌, ltb, leb, eqb, length, if◌then◌else◌}
use Rattle.std.proofs.lemmas.List.Edits.{sets}
use Rattle.refusal.specs.Order.{number_of, leftover}
use Rattle.card.specs.declared.desk.Answer.{Answer}
use Rattle.card.specs.declared.block.Answered.{Answered}
use Rattle.card.specs.Record.{card_at}
use Rattle.card.specs.Desk.{outcome_of, answer_for}
use Rattle.card.specs.Text.{line}

unfoldable pub line_of : ℕ → Answer → List ℕ
line_of n a = line n a.number a.count a.margin a.stop

-- the line of record n, which starts at from; its forecast has room for 4096 entries
unfoldable pub line_at : ℕ → List ℕ → ℕ → List ℕ
line_at n l from = line_of n (answer_for (outcome_of (card_at l from) 4096))

-- the lines of the first k records of l, the first of which is record n
unfoldable pub lines : ℕ → List ℕ → ℕ → List ℕ
lines n l zero = []
lines n l (suc k) = lines n l k ++ line_at (n + k) l (k * 96)

-- the line of a rest that is no whole record
unfoldable pub rest : ℕ → List ℕ → List ℕ
rest n l = if eqb (length l % 96) 0 then [] else line (n + length l / 96) (number_of leftover) 0 0 0

-- all that the bytes l are answered, from record n on
unfoldable pub text : ℕ → List ℕ → List ℕ
text n l = lines n l (length l / 96) ++ rest n l

-- the texts of blocks, one after the other, each numbered from where the one before it ended
unfoldable pub texts : ℕ → List (List ℕ) → List ℕ
texts n [] = []
texts n (b ∷ bs) = text n b ++ texts (n + length b / 96) bs

-- each block but the last has whole records alone
abbrev pub WholeButLast : List (List ℕ) → Type 0
WholeButLast [] = Unit
WholeButLast (b ∷ []) = Unit
WholeButLast (b ∷ c ∷ bs) = (length b % 96 ≡ 0) × WholeButLast (c ∷ bs)

-- room for a line of 97 bytes for each record and one more, and a number of 64 bits for the record after them
unfoldable pub fits : ℕ → ℕ → ℕ → Bool
fits room bytes n = ltb (bytes / 96) (room / 97) && leb (bytes / 96) (18446744073709551615 - n)

unfoldable pub answered_for : ℕ → List ℕ → ℕ → Answered
answered_for n l room =
    if fits room (length l) n then record { bytes = length (text n l); next = n + length l / 96 }
    else record { bytes = 0; next = 0 }

unfoldable pub out_for : ℕ → List ℕ → List ℕ → List ℕ
out_for n l out = if fits (length out) (length l) n then sets out 0 (text n l) else out
