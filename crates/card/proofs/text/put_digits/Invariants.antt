-- `card::text::put_digits` meets its contract: digits from the last to the first; what is left to write always gives the whole.
use mathlib.Core.Path.{◌≡◌}
use lib.Seq.{sets}
use Rattle.card.specs.Text.{digits}
use Rattle.card.proofs.text.put_digits.Given as goal

abbrev pub invariant-loop-i : goal.invariant-loop-i
invariant-loop-i l = sets l.out l.at (digits l.base l.i l.rest) ≡ sets l.initial.out l.at (digits l.base l.count l.n)
