-- What the contracts come to: a failed read brings no line with 14, and every block that another follows has whole records, so that by `card`'s
-- `Promises.Blocks` the lines of a run are the text of all that was answered. The proofs are `proofs/Promises.antt`.
use Rattle.std.specs.Prelude.{ℕ, ◌%◌, ◌≤◌, ◌≡◌, true, List, [], length, take}
use Rattle.card.specs.Block.{rest}
use Rattle.input.specs.declared.Filled.{Filled}
use Rattle.input.specs.Reads.{answered}
use Rattle.forecast.specs.declared.Block.{Block}
use Rattle.forecast.specs.Run.{goes_on}

abbrev pub NoRestAfterAFailedRead : Type 0
NoRestAfterAFailedRead = (f : Filled) (n : ℕ) (l : List ℕ) → f.failed ≡ true → f.n ≤ length l → rest n (take (answered f 96) l) ≡ []

abbrev pub FollowedIsWhole : Type 0
FollowedIsWhole = (t : Block) (block : List ℕ) → length block ≡ 65472 → goes_on t 65472 ≡ true → length (take (answered t.filled 96) block) % 96 ≡ 0
