-- The bits of a word: feature j is bit j of a mask.
use Rattle.std.specs.Prelude.{ℕ, zero, suc, ◌+◌, ◌/◌, ◌%◌, ◌^◌, Bool, eqb, if◌then◌else◌}

-- bit j of w is set
unfoldable pub bit : ℕ → ℕ → Bool
bit w j = eqb (w / 2 ^ j % 2) 1

-- the word that has bit j, for each j below n, exactly where p holds of j
unfoldable pub bits_where : (ℕ → Bool) → ℕ → ℕ
bits_where p zero = 0
bits_where p (suc n) = bits_where p n + (if p n then 2 ^ n else 0)
