-- `card::text::put_numbers` meets its contract: dashes, or two numbers with a space between.
use native.Mathlib.Omega.{arith}
use mathlib.Core.Bool.{Bool, true, false}
use mathlib.Core.Path.{◌≡◌, subst}
use mathlib.Core.List.{[], ◌∷◌, ◌++◌}
use Prim.Native.Nat.{ℕ}
use Rattle.card.specs.Text.{numbers, hex, Put}
use Rattle.card.proofs.Digits.{joined}
use Rattle.card.proofs.Lengths.{hex_length}
use Rattle.card.proofs.text.put_numbers.Goals as goal

dashes : (b : Bool) (m s : ℕ) → b ≡ true → 45 ∷ 32 ∷ 45 ∷ [] ≡ numbers b m s
unfolding numbers
dashes b m s h = rw h

two : (b : Bool) (m s : ℕ) → b ≡ false → hex m ++ (32 ∷ []) ++ hex s ≡ numbers b m s
unfolding numbers
two b m s h = rw h

pub returns-then-refused : goal.returns-then-refused
returns-then-refused c = let s = c.args in subst (Put _ _ _ _) (dashes s.refused s.margin s.stop c.if-refused.true) (joined (joined c.put-a.ensures c.put-b.ensures) c.put.ensures)

pub put-b-requires-2 : goal.put-b-requires-2
put-b-requires-2 c = omega (arith, hex_length c.args.margin)

pub put_hex-requires : goal.put_hex-requires
put_hex-requires c = omega (arith, hex_length c.args.margin)

pub returns : goal.returns
returns c = let s = c.args in subst (Put _ _ _ _) (two s.refused s.margin s.stop c.if-refused.false) (joined (joined c.put_hex-a.ensures c.put-b-2.ensures) c.put_hex.ensures)
