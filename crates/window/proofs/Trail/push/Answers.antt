-- `Trail::push` meets its contract: by the number of trail and position, and an accepted trail is in size.
use Prim.Native.Nat.{ℕ, ◌≤◌, ◌<◌}
use mathlib.Core.Path.{◌≡◌, sym, ap, ◌∙◌}
use mathlib.Core.List.{List}
use native.Mathlib.Omega.{arith}
use borrow.Author.Tests.{eq-eqb, ne_eqb, ltb-false}
use lib.Dec.{eqb, ltb}
use lib.Ieee.{Float}
use lib.ListN.{length}
use Rattle.refusal.specs.Order.{refusal}
use Rattle.std.specs.Prelude.{if◌then◌else◌}
use Rattle.checked.specs.Finite.{all_finite}
use Rattle.checked.proofs.Each.{neither}
use Rattle.window.specs.declared.Trail.{Trail}
use Rattle.window.specs.declared.Recorded.{Recorded}
use Rattle.window.specs.Answer.{out_of_size, unfit, push_reasons}
use Rattle.refusal.specs.Chain.{number_is}
use Rattle.window.specs.Of.{recorded_of, push_of}
use Rattle.window.proofs.TrailJudged.{accepted_in_size}
use Rattle.window.proofs.Trail.push.Goals as goal

module _ (t : Trail) (p : List Float) (d n : ℕ) (is : n ≡ refusal (push_reasons t p)) where
  by_number : push_of t p d ≡ (if eqb n 0 then record { number = 0; trail = recorded_of t p d } else record { number = n; trail = t })
  unfolding push_of
  by_number = ap (λ (k : ℕ). if◌then◌else◌ {A = Recorded} (eqb k 0) (record { number = 0; trail = recorded_of t p d }) (record { number = k; trail = t })) (sym is)

  refused : (n ≡ 0 → ⊥) → ◌≡◌ {A = Recorded} (record { number = n; trail = t }) (push_of t p d)
  refused some = sym (by_number ∙ rw (ne_eqb n 0 some))

  pushed : (r : Trail) → r ≡ recorded_of t p d → n ≡ 0 → ◌≡◌ {A = Recorded} (record { number = 0; trail = r }) (push_of t p d)
  pushed r e z = rw e (sym (by_number ∙ rw (eq-eqb n 0 z)))

  in_size : n ≡ 0 → (t.head < 32) × (t.len ≤ 32)
  in_size z =
      let h = neither (ltb 31 t.head) (ltb 32 t.len) (accepted_in_size (out_of_size t) (unfit t) (all_finite p (length p)) (sym is ∙ z)) in
      let head : t.head ≤ 31 = ltb-false 31 t.head h.0 in
      (omega arith, ltb-false 32 t.len h.1)

pub returns-then-number-ne0 : goal.returns-then-number-ne0
returns-then-number-ne0 c = let a = c.args in refused a.self a.p.now a.d _ (c.number_of-number.ensures ∙ number_is c.push_refusal.ensures) c.if-number-ne0.true

pub recorded-trail-requires : goal.recorded-trail-requires
recorded-trail-requires c = let a = c.args in in_size a.self a.p.now a.d _ (c.number_of-number.ensures ∙ number_is c.push_refusal.ensures) c.if-number-ne0.false

pub returns : goal.returns
returns c = let a = c.args in pushed a.self a.p.now a.d _ (c.number_of-number.ensures ∙ number_is c.push_refusal.ensures) _ c.recorded-trail.ensures c.if-number-ne0.false
