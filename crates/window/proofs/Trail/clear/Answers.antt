-- `Trail::clear` meets its contract, by the trail's number.
use Prim.Native.Nat.{ℕ}
use mathlib.Core.Path.{◌≡◌, sym, ap, ◌∙◌}
use borrow.Author.Tests.{eq-eqb, ne_eqb}
use lib.Dec.{eqb}
use Rattle.refusal.specs.Order.{refusal}
use Rattle.std.specs.Prelude.{if◌then◌else◌}
use Rattle.window.specs.declared.Trail.{Trail}
use Rattle.window.specs.declared.Recorded.{Recorded}
use Rattle.window.specs.Answer.{trail_reasons}
use Rattle.refusal.specs.Chain.{number_is}
use Rattle.window.specs.Of.{cleared_of, clear_of}
use Rattle.window.proofs.Trail.clear.Goals as goal

module _ (t : Trail) (n : ℕ) (is : n ≡ refusal (trail_reasons t)) where
  by_number : clear_of t ≡ (if eqb n 0 then record { number = 0; trail = cleared_of t } else record { number = n; trail = t })
  unfolding clear_of
  by_number = ap (λ (k : ℕ). if◌then◌else◌ {A = Recorded} (eqb k 0) (record { number = 0; trail = cleared_of t }) (record { number = k; trail = t })) (sym is)

  refused : (n ≡ 0 → ⊥) → ◌≡◌ {A = Recorded} (record { number = n; trail = t }) (clear_of t)
  refused some = sym (by_number ∙ rw (ne_eqb n 0 some))

  cleared : n ≡ 0 → ◌≡◌ {A = Recorded} (record { number = 0; trail = cleared_of t }) (clear_of t)
  cleared z = sym (by_number ∙ rw (eq-eqb n 0 z))

pub returns-then-number-ne0 : goal.returns-then-number-ne0
returns-then-number-ne0 c = refused c.args.self _ (c.number_of-number.ensures ∙ number_is c.trail_refusal.ensures) c.if-number-ne0.true

pub returns : goal.returns
returns c = cleared c.args.self _ (c.number_of-number.ensures ∙ number_is c.trail_refusal.ensures) c.if-number-ne0.false
