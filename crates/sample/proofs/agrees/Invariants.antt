-- `sample::agrees` meets its contract: the loop keeps the answer so far, over lists of one length.
use mathlib.Core.Path.{◌≡◌}
use Prim.Native.Nat.{ℕ, ◌≤◌}
use lib.Ieee.{eq}
use lib.ListN.{length}
use Rattle.checked.specs.Each.{all, at}
use Rattle.sample.proofs.agrees.Given as goal

abbrev pub invariant-loop-j : goal.invariant-loop-j
invariant-loop-j l = (l.j ≤ length l.got) × (l.ok ≡ all (λ (i : ℕ). eq (at l.kept i) (at l.got i)) l.j)
