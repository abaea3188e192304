-- `card::text::width` meets its contract: what is counted and what is left to count make the whole.
use mathlib.Core.Path.{◌≡◌}
use Prim.Native.Nat.{◌≤◌, ◌+◌, ◌-◌}
use Rattle.card.specs.Text.{width_of}
use Rattle.card.proofs.text.width.Given as goal

abbrev pub invariant-loop-left : goal.invariant-loop-left
invariant-loop-left l = (l.left ≤ 19) × ((19 - l.left) + width_of l.left l.rest ≡ width_of 19 l.n)

abbrev pub decreases-loop-left : goal.decreases-loop-left
decreases-loop-left l = l.left
