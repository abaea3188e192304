-- `conformal::fired_bits` meets its contract: the loop keeps the word of the features passed, which stays below the next weight.
use Prim.Native.Nat.{◌^◌}
use mathlib.Core.Path.{◌≡◌}
use Rattle.bits.specs.Bits.{bits_where}
use Rattle.conformal.specs.Rule.{live, fires}
use Rattle.conformal.proofs.fired_bits.Given as goal

abbrev pub invariant-loop-j : goal.invariant-loop-j
invariant-loop-j l = (l.w ≡ 2 ^ l.j) × (l.bits ≡ bits_where (fires (live l.mask l.valid) l.tau l.z) l.j)
