-- A card read in a part of the bytes is the card read in the bytes.
use mathlib.Core.Path.{◌≡◌}
use mathlib.Core.List.{List}
use Prim.Native.Nat.{ℕ}
use native.Mathlib.Nat.{add-zero}
use native.Mathlib.Omega.{arith}
use lib.ListN.{take, drop}
use Rattle.words.proofs.Beside.{little_part}
use Rattle.card.specs.Record.{card_at}

pub part_card : (l : List ℕ) (from : ℕ) → card_at (take 96 (drop from l)) 0 ≡ card_at l from
unfolding card_at
part_card l from =
    rw (
      little_part 8 0 96 from l (omega arith),
      little_part 8 8 96 from l (omega arith),
      little_part 8 16 96 from l (omega arith),
      little_part 8 24 96 from l (omega arith),
      little_part 8 32 96 from l (omega arith),
      little_part 8 40 96 from l (omega arith),
      little_part 8 48 96 from l (omega arith),
      little_part 8 56 96 from l (omega arith),
      little_part 8 64 96 from l (omega arith),
      little_part 8 72 96 from l (omega arith),
      little_part 8 80 96 from l (omega arith),
      little_part 2 88 96 from l (omega arith),
      little_part 2 90 96 from l (omega arith),
      little_part 2 92 96 from l (omega arith),
      little_part 2 94 96 from l (omega arith),
      add-zero,
    )
