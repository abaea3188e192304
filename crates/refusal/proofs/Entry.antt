-- What an entry answers that judges the configuration, a chunk and what is lent, then computes: refused by one of them, by a computed number, or accepted.
use Prim.Native.Nat.{ℕ, zero, suc}
use mathlib.Core.Path.{◌≡◌, refl, sym, ap, ◌∙◌}
use mathlib.Core.Bool.{Bool, true, false, not}
use mathlib.Core.List.{List, [], ◌∷◌, ◌++◌}
use native.Mathlib.Omega.{arith}
use Rattle.std.specs.Prelude.{if◌then◌else◌}
use Rattle.refusal.specs.Order.{Judged, computed, ◌when◌, refused_for, answer_by, left_by}
use Rattle.refusal.specs.Chain.{chain, first_refuses, first_passes}
use Rattle.refusal.specs.declared.Refusal.{Refusal}

-- a number that refuses leaves what was there
pub left_kept : {A : Type 0} (was written : A) (n : ℕ) → (n ≡ 0 → ⊥) → left_by was written n ≡ was
left_kept was written zero some = absurd (some refl)
left_kept was written (suc n) some = refl

-- the answer and what is left, by a number
pub record Answered {A B : Type 0} (refused : Refusal → A) (answer : A) (was written : B) (n : ℕ) (r : A) (m : B) : Type 0 where
  pub gives : r ≡ answer_by refused answer n
  pub leaves : m ≡ left_by was written n

module _ {A B : Type 0} (refused : Refusal → A) (answer : A) (was written : B) where
  by_number : (n k : ℕ) → k ≡ n → (n ≡ 0 → ⊥) → {x : Refusal} → x ≡ refused_for n → Answered refused answer was written k (refused x) was
  by_number zero k e some ex = absurd (some refl)
  by_number (suc n) k e some ex = record { gives = rw (e, ex); leaves = rw e }

  -- what is judged before anything is computed, whether each computed number is finite, and the number for both
  module _ (before : List Judged) (sound : Bool) {k : ℕ} (ek : k ≡ chain (before ++ ((computed when not sound) ∷ []))) where
    pub by_lent : {n : ℕ} → n ≡ chain before → (n ≡ 0 → ⊥) → {x : Refusal} → x ≡ refused_for n → Answered refused answer was written k (refused x) was
    by_lent {n} en some = by_number n k (ek ∙ first_refuses before _ (λ z. some (en ∙ z)) ∙ sym en) some

    -- where that passes the computed numbers decide
    module _ (z : chain before ≡ 0) {fine : Bool} (ef : fine ≡ sound) where
      last : (b : Bool) → fine ≡ b → k ≡ (if not b then 13 else 0)
      last b e = ek ∙ first_passes before _ z ∙ ap (λ (u : Bool). if not u then 13 else 0) (sym ef ∙ e)

      pub by-computed : fine ≡ false → {x : Refusal} → x ≡ refused_for 13 → Answered refused answer was written k (refused x) was
      by-computed e = by_number 13 k (last false e) (λ z. omega arith)

      pub accepted : fine ≡ true → {r : A} {m : B} → r ≡ answer → m ≡ written → Answered refused answer was written k r m
      accepted e er em = record { gives = rw (last true e) er; leaves = rw (last true e) em }
