-- `tier1::tick::gathered` meets its contract: the loop takes one feature more a turn.
use Prim.Native.Nat.{ℕ, ◌^◌, ◌≤◌}
use mathlib.Core.List.{List}
use mathlib.Core.Path.{◌≡◌}
use lib.Ieee.{Float}
use lib.ListN.{length, take}
use Rattle.checked.specs.Each.{table}
use Rattle.bits.specs.Bits.{bits_where}
use Rattle.envelope.specs.Derive.{kept}
use Rattle.tier1.specs.Rule.{valid_at, value_at}
use Rattle.tier1.proofs.tick.gathered.Given as goal

-- the first j features are gathered, and w is the weight of the next bit
pub record Gathered (held-valid len : ℕ) (ineff : Float) (ext held : List Float) (f : List Float) (valid w j : ℕ) : Type 0 where
  pub along : j ≤ 12
  pub weighs : w ≡ 2 ^ j
  pub bits-so-far : valid ≡ bits_where (valid_at held-valid len (length ext)) j
  pub wide : length f ≡ 12
  pub so_far : take j f ≡ table (λ (i : ℕ). kept (valid_at held-valid len (length ext) i) (value_at held ineff ext i)) j

abbrev pub invariant-loop-j : goal.invariant-loop-j
invariant-loop-j l = Gathered l.held_valid l.len l.ineff l.ext l.held l.f l.valid l.w l.j
