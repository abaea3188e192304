-- The pull: a row shortened towards a point from which it is too far. Over the format; whatever is computed is checked.
use Rattle.std.specs.Prelude.{ℕ, false, List, negsuc, Float, if◌then◌else◌}
use Rattle.std.specs.Float.{Format, binary32, binary64, fin}
use Rattle.std.specs.Float.Ieee.{lt}
use Rattle.checked.specs.Each.{at}
use Rattle.checked.specs.Checked.{Checked, ◌>>=◌, pure, plus, minus, times, divided, each}
use Rattle.fmath.specs.Norm.{dist}

-- 1 - 2^-36, and 1 - 2^-13 at the smaller width
abbrev pub leash_shrink : Format → Float
leash_shrink binary32 = fin false 0x1fff (negsuc 12)
leash_shrink binary64 = fin false 0xf_ffff_ffff (negsuc 35)

-- from q, the part s of the way to x
unfoldable pub toward : Format → Float → Float → Float → Checked Float
toward f s q x = do
  d ← minus f x q
  m ← times f d s
  plus f q m

abbrev pub towards : Format → Float → List Float → List Float → ℕ → Checked Float
towards f s q a j = toward f s (at q j) (at a j)

-- a, pulled on its first n coordinates towards q, from which it is so far: the factor is most x leashShrink / far
unfoldable pub shortened : Format → Float → Float → List Float → ℕ → List Float → Checked (List Float)
shortened f most far q n a = do
  short ← times f most (leash_shrink f)
  s ← divided f short far
  each (towards f s q a) a n

-- the same where it is further than `most`; else it stays
unfoldable pub pulled : Format → Float → List Float → ℕ → List Float → Checked (List Float)
pulled f most q n a = do
  far ← dist f a q n
  if lt most far then shortened f most far q n a else pure a
