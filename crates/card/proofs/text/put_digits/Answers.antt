-- `card::text::put_digits` meets its contract: digits from the last to the first; what is left to write always gives the whole.
use mathlib.Core.Path.{sym, ap, ◌∙◌}
use Prim.Native.Nat.{ℕ, ◌+◌}
use Rattle.card.proofs.Digits.{written, digits_length}
use Rattle.card.proofs.text.put_digits.Goals as goal

pub returns : goal.returns
returns c = let s = c.args in record { bytes = written s.base c.loop-i.i c.loop-i.rest s.at c.loop-i.out _ c.loop-i-test.false c.loop-i.invariant; after = ap (λ (k : ℕ). s.at + k) (sym (digits_length s.base s.count s.n)) }
