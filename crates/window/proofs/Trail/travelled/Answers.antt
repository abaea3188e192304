-- `Trail::travelled` meets its contract: the ring's array is lent as a slice.
use mathlib.Core.Path.{sym}
use native.Mathlib.Nat.{le_of_eq}
use borrow.Author.Rules.{rules}
use Rattle.window.proofs.Trail.travelled.Goals as goal

pub path_of-requires : goal.path_of-requires
path_of-requires c = search (rules, le_of_eq, sym)
