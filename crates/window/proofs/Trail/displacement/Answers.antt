-- `Trail::displacement` meets its contract: the ring's array is lent as a slice.
use mathlib.Core.Path.{sym}
use native.Mathlib.Nat.{le_of_eq}
use borrow.Author.Rules.{rules}
use Rattle.window.proofs.Trail.displacement.Goals as goal

pub net_of-requires : goal.net_of-requires
net_of-requires c = search (rules, le_of_eq, sym)
