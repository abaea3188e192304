-- `conformal::greatest` meets its contract: the loop keeps the greatest of the terms passed.
use Prim.Native.Nat.{ℕ}
use mathlib.Core.Path.{◌≡◌}
use Rattle.conformal.specs.Rule.{live, counts, least_of, term_at, greatest_where}
use Rattle.conformal.proofs.greatest.Given as goal

abbrev pub invariant-loop-i : goal.invariant-loop-i
invariant-loop-i l = l.s ≡ greatest_where (counts l.fn.gate (live l.mask l.valid)) (λ (k : ℕ). least_of l.z (term_at l.fn.gate k)) l.i
