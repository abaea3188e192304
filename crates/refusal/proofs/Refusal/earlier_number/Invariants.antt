-- `Refusal::earlier_number` meets its contract: the loop goes through the order, and neither number was met so far.
use mathlib.Core.Path.{◌≡◌}
use lib.ListN.{drop}
use Rattle.refusal.specs.Order.{order, first_of, ◌or◌, named, earlier}
use Rattle.refusal.proofs.Refusal.earlier_number.Given as goal

abbrev pub invariant-loop-n : goal.invariant-loop-n
invariant-loop-n l = earlier l.a l.b ≡ first_of (named l.a or named l.b) (drop l.n-index order)
