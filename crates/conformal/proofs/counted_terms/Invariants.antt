-- `conformal::counted_terms` meets its contract: the loop keeps both answers so far over all eight terms.
use Prim.Native.Nat.{ℕ}
use mathlib.Core.Path.{◌≡◌}
use mathlib.Core.Bool.{Bool, ◌||◌}
use lib.Dec.{leb}
use Rattle.checked.specs.Each.{all}
use Rattle.conformal.specs.Rule.{term_at}
use Rattle.conformal.specs.Refusals.{named, without_stall_of}
use Rattle.conformal.specs.declared.GateSpec.{GateSpec}
use Rattle.conformal.proofs.counted_terms.Given as goal

-- p holds of those of the first i terms that count
abbrev pub SoFar : (ℕ → Bool) → GateSpec → ℕ → ℕ → Bool
SoFar p gate n i = all (λ (k : ℕ). leb n k || p (term_at gate k)) i

abbrev pub invariant-loop-i : goal.invariant-loop-i
invariant-loop-i l = (l.named ≡ SoFar named l.fn.gate l.n l.i) × (l.without_stall ≡ SoFar without_stall_of l.fn.gate l.n l.i)
