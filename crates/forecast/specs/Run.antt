-- What the contracts of `forecast` cite: what the answers of reads and writes decide.
use Rattle.std.specs.Prelude.{◌≡◌, Bool, true, false, not, cond, ◌&&◌, List, ℕ, ◌-◌, ◌%◌, eqb, length, take, Option, None, Some}
use Rattle.std.specs.Io.KnownBytes.{Consumes, Appends}
use Rattle.card.specs.Block.{text, answered_for, out_for}
use Rattle.input.specs.Reads.{reads_on, answered}
use Rattle.forecast.specs.declared.Block.{Block}
use Rattle.forecast.specs.declared.End.{End}
use Rattle.forecast.specs.declared.End.TheVariants.{InputEnded, ReadFailed, WriteFailed, NumbersEnded}

-- a block that was filled as far as it can be, and the lines of what is answered of it put over `old`, numbered from n on
pub record Turned (n : ℕ) (block old new : List ℕ) (t : Block) : Type 0 where
  pub filled : reads_on t.filled (length block) ≡ false
  pub answer : t.answer ≡ answered_for n (take (answered t.filled 96) block) (length old)
  pub lines : new ≡ out_for n (take (answered t.filled 96) block) old

-- another block is read where the lines of this one are written, it is full, and the next record has a number
unfoldable pub goes_on : Block → ℕ → Bool
goes_on t room = t.wrote && eqb t.filled.n room && not (eqb t.answer.next 0)

-- how the run ended, by its last block
unfoldable pub end_of : Block → End
end_of t =
    cond (not t.wrote) WriteFailed
    (cond t.filled.failed ReadFailed
    (cond (eqb t.answer.next 0) NumbersEnded
    InputEnded))

-- the bytes of an input that are answered: all or, where a read failed, its whole records
unfoldable pub whole : Bool → List ℕ → List ℕ
whole failed l = cond failed (take (length l - length l % 96) l) l

-- what a run up to the block t did to a reader and a writer whose bytes are known: it took some bytes and, where t's lines were written and
-- a number is left for the next record, it wrote the text of those that are answered, and nothing else
pub record Ran (from from' to to' : Option (List ℕ)) (t : Block) : Type 0 where
  pub taken : List ℕ
  pub read : Consumes from from' taken
  pub wrote : t.wrote ≡ true → (t.answer.next ≡ 0 → ⊥) → Appends to to' (text 1 (whole t.filled.failed taken))

-- the whole of a known input was answered: its text, numbered from 1 on, was written
abbrev pub IsAnswered : (from to to' : Option (List ℕ)) → Type 0
IsAnswered None to to' = Unit
IsAnswered (Some input) to to' = Appends to to' (text 1 input)
