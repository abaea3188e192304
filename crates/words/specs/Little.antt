-- What the contracts of `words` cite: little-endian numbers.
use Rattle.std.specs.Prelude.{ℕ, zero, suc, ◌+◌, ◌*◌, ◌^◌, List, get_or}

-- the number that k bytes of l from at on spell, the least first; a byte that is not there counts as 0
unfoldable pub little : ℕ → List ℕ → ℕ → ℕ
little zero l at = 0
little (suc k) l at = little k l at + 256 ^ k * get_or l (at + k) 0
