-- What is promised of the text of cards. The proof is `proofs/Promises.antt`.
use Rattle.std.specs.Prelude.{ℕ, ◌≡◌}
use mathlib.Core.List.{List, flatten}
use Rattle.card.specs.Block.{text, texts, WholeButLast}

-- where the input is cut into blocks does not matter, as long as each but the last has whole records: their texts, each numbered from where the one before it
-- ended, are one after the other the text of all the input
abbrev pub Blocks : Type 0
Blocks = (n : ℕ) (bs : List (List ℕ)) → WholeButLast bs → texts n bs ≡ text n (flatten bs)
