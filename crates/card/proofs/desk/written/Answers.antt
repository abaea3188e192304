-- `card::desk::written` meets its contract: by whether the number is 13.
use mathlib.Core.Path.{◌≡◌}
use Prim.Native.Nat.{ℕ, ◌-◌}
use borrow.Author.Tests.{eq-eqb, ne_eqb}
use Rattle.card.specs.Desk.{count_of}
use Rattle.card.proofs.desk.written.Goals as goal

at-13 : (n place r : ℕ) → n ≡ 13 → r ≡ place - 1 → r ≡ count_of n place
unfolding count_of
at-13 n place r h e = rw (eq-eqb n 13 h) e

elsewhere : (n place : ℕ) → (n ≡ 13 → ⊥) → 0 ≡ count_of n place
unfolding count_of
elsewhere n place h = rw (ne_eqb n 13 h)

pub returns-then-number-eq-COMPUTED : goal.returns-then-number-eq-COMPUTED
returns-then-number-eq-COMPUTED c = at-13 c.args.number c.args.place _ c.if-number-eq-COMPUTED.true c.before-then-number-eq-COMPUTED.ensures

pub returns-else-number-eq-COMPUTED : goal.returns-else-number-eq-COMPUTED
returns-else-number-eq-COMPUTED c = elsewhere c.args.number c.args.place c.if-number-eq-COMPUTED.false
