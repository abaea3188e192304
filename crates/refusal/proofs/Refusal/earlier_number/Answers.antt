-- `Refusal::earlier_number` meets its contract: the loop goes through the order, and neither number was met so far.
use Prim.Native.Nat.{ℕ, zero, suc, ◌<◌}
use mathlib.Core.Path.{◌≡◌, refl, sym, ap, ◌∙◌}
use mathlib.Core.Bool.{true, false, ◌&&◌, ◌||◌, false≢true}
use mathlib.Core.List.{List, [], ◌∷◌}
use native.Mathlib.Nat.{le_antisymm}
use native.Mathlib.Omega.{arith}
use native.Mathlib.Numerals.{add-one}
use borrow.Author.Tests.{ne_eqb}
use lib.Dec.{eqb}
use lib.ListN.{length, get_or, drop}
use Rattle.refusal.specs.Order.{Reason, number_of, order, first_of, ◌or◌, named, earlier}
use Rattle.std.specs.Prelude.{if◌then◌else◌}
use Rattle.refusal.proofs.Refusal.earlier_number.Goals as goal

abbrev numbers : List Reason → List ℕ
numbers [] = []
numbers (k ∷ l) = number_of k ∷ numbers l

-- the first from a place on: what stands there, or the first after it
at_place : (a b : ℕ) (l : List Reason) (i : ℕ) → i < length l → first_of (named a or named b) (drop i l)
    ≡ (if eqb a (get_or (numbers l) i 0) || eqb b (get_or (numbers l) i 0) then get_or (numbers l) i 0 else first_of (named a or named b) (drop (suc i) l))
at_place a b [] i h = absurd (omega arith)
at_place a b (k ∷ l) zero h = refl
at_place a b (k ∷ l) (suc i) h = at_place a b l i (omega arith)

-- what is given at a place, by whether one of the two numbers is met there
met : (a b : ℕ) (l : List Reason) (i : ℕ) → i < length l → (eqb a (get_or (numbers l) i 0) || eqb b (get_or (numbers l) i 0)) ≡ true
    → first_of (named a or named b) (drop i l) ≡ get_or (numbers l) i 0
met a b l i h e = at_place a b l i h ∙ rw e

passed : (a b : ℕ) (l : List Reason) (i : ℕ) → i < length l → (eqb a (get_or (numbers l) i 0) || eqb b (get_or (numbers l) i 0)) ≡ false
    → first_of (named a or named b) (drop i l) ≡ first_of (named a or named b) (drop (suc i) l)
passed a b l i h e = at_place a b l i h ∙ rw e

none : (a b : ℕ) → (eqb a 0 && eqb b 0) ≡ true → 0 ≡ earlier a b
none zero zero e = refl
none zero (suc b) e = absurd (false≢true (rw (ne_eqb (suc b) 0 (λ z. omega arith)) at e))
none (suc a) b e = absurd (false≢true (rw (ne_eqb (suc a) 0 (λ z. omega arith)) at e))

pub returns-then-a-b : goal.returns-then-a-b
returns-then-a-b c = none c.args.a c.args.b c.if-a-b.true

pub returns-then-a-n : goal.returns-then-a-n
returns-then-a-n c = let l = c.loop-n in let g = c.args in sym (l.invariant ∙ met g.a g.b order l.n-index c.loop-n-test.true c.if-a-n.true)

pub loop-n-preserved : goal.loop-n-preserved
loop-n-preserved c = let l = c.loop-n in let g = c.args in rw add-one (l.invariant ∙ passed g.a g.b order l.n-index c.loop-n-test.true c.if-a-n.false)

pub returns : goal.returns
returns c = let l = c.loop-n in sym (l.invariant ∙ ap (λ (i : ℕ). first_of (named c.args.a or named c.args.b) (drop i order)) (le_antisymm l.auto.n-index-end c.loop-n-test.false))
