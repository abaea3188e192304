-- `root::rounds::rounds` meets its contract: what stands after k rounds of the loop is what stands after k rounds of the rule (`ComeDown`).
use Rattle.std.proofs.Common.{◌≡◌, ◌+◌, ◌-◌, ◌/◌, ◌%◌, ◌≤◌}
use Rattle.root.proofs.ComeDown.{Stands}
use Rattle.root.proofs.rounds.rounds.Given as goal

abbrev pub invariant-loop-round : goal.invariant-loop-round
invariant-loop-round l = (l.round ≤ l.round-end) × (l.round-end ≡ (l.precision + 1) / 2) × Stands l.initial.left (l.precision % 2) l.round l.left l.root l.rest

abbrev pub decreases-loop-round : goal.decreases-loop-round
decreases-loop-round l = l.round-end - l.round
