-- "Given exactly when": a number is given if and only if its reason applies and none before it in the order does, and 0 if and only if none applies.
use Rattle.std.specs.Prelude.{ℕ, ◌≡◌, refl, Bool, true, false, List, [], ◌∷◌, eqb, if◌then◌else◌}
use Rattle.std.proofs.Common.{sym, ap, ◌∙◌, subst, arith}
use Rattle.refusal.specs.Order.{Reason, size, number, steps, channels, shape, withdrawn, empty, too_long, too_wide, exec_exceeds_horizon, len_mismatch, width, short, not_finite, computed, leftover, number_of, order, first_of, given}

-- k is the first of some reasons that applies
pub data First (applies : Reason → Bool) : List Reason → Reason → Type 0 where
  here : {k : Reason} {l : List Reason} → applies k ≡ true → First applies (k ∷ l) k
  later : {j k : Reason} {l : List Reason} → applies j ≡ false → First applies l k → First applies (j ∷ l) k

-- the first reason with a number, for one that has it
abbrev with_number : ℕ → List Reason → Reason
with_number n [] = size
with_number n (k ∷ l) = if eqb (number_of k) n then k else with_number n l

-- each reason is found in the order by its number; a new reason is a line here
back : (k : Reason) → with_number (number_of k) order ≡ k
back size = refl
back number = refl
back steps = refl
back channels = refl
back shape = refl
back withdrawn = refl
back empty = refl
back too_long = refl
back too_wide = refl
back exec_exceeds_horizon = refl
back len_mismatch = refl
back width = refl
back short = refl
back not_finite = refl
back computed = refl
back leftover = refl

-- no two reasons have one number
pub numbers_differ : (j k : Reason) → number_of j ≡ number_of k → j ≡ k
numbers_differ j k e = sym (back j) ∙ ap (λ (n : ℕ). with_number n order) e ∙ back k

-- and none has 0: it would be the first reason, which has not
pub not_zero : (k : Reason) → 0 ≡ number_of k → ⊥
not_zero k e = let first : k ≡ size = sym (back k) ∙ ap (λ (n : ℕ). with_number n order) (sym e) in omega (arith, ap number_of first, e)

module _ (applies : Reason → Bool) where
  first_given : {l : List Reason} {k : Reason} → First applies l k → first_of applies l ≡ number_of k
  first_given (here e) = rw e
  first_given (later e h) = rw e (first_given h)

  given_first : (l : List Reason) (k : Reason) → first_of applies l ≡ number_of k → First applies l k
  given_first [] k e = absurd (not_zero k e)
  given_first (j ∷ l) k e = go (applies j) refl e (given_first l k)
    where
      go : (b : Bool) → applies j ≡ b → (if b then number_of j else first_of applies l) ≡ number_of k → (first_of applies l ≡ number_of k → First applies l k) → First applies (j ∷ l) k
      go true a h on = subst (λ (x : Reason). First applies (j ∷ l) x) (numbers_differ j k h) (here a)
      go false a h on = later a (on h)

  -- a number is given exactly when its reason is the first in the order that applies
  pub exactly_first : (k : Reason) → (First applies order k → given applies ≡ number_of k) × (given applies ≡ number_of k → First applies order k)
  exactly_first k = (first_given, given_first order k)

  -- none of some reasons applies
  abbrev pub NoneOf : List Reason → Type 0
  NoneOf [] = Unit
  NoneOf (k ∷ l) = (applies k ≡ false) × NoneOf l

  zero_none : (l : List Reason) → first_of applies l ≡ 0 → NoneOf l
  zero_none [] e = tt
  zero_none (j ∷ l) e = go (applies j) refl e (zero_none l)
    where
      go : (b : Bool) → applies j ≡ b → (if b then number_of j else first_of applies l) ≡ 0 → (first_of applies l ≡ 0 → NoneOf l) → NoneOf (j ∷ l)
      go true a h on = absurd (not_zero j (sym h))
      go false a h on = (a, on h)

  pub none_zero : (l : List Reason) → NoneOf l → first_of applies l ≡ 0
  none_zero [] h = refl
  none_zero (k ∷ l) h = rw h.0 (none_zero l h.1)

  each_of : (l : List Reason) → ((k : Reason) → applies k ≡ false) → NoneOf l
  each_of [] h = tt
  each_of (k ∷ l) h = (h k, each_of l h)

  -- where none applies, the one with a given number does not
  with_number_lem : (n : ℕ) (l : List Reason) → applies size ≡ false → NoneOf l → applies (with_number n l) ≡ false
  with_number_lem n [] z h = z
  with_number_lem n (j ∷ l) z h = go (eqb (number_of j) n) (with_number_lem n l z h.1)
    where
      go : (b : Bool) → applies (with_number n l) ≡ false → applies (if b then j else with_number n l) ≡ false
      go true after = h.0
      go false after = after

  judged : NoneOf order → (k : Reason) → applies k ≡ false
  judged h k = subst (λ (j : Reason). applies j ≡ false) (back k) (with_number_lem (number_of k) order h.0 h)

  -- 0 is given exactly when no reason applies
  pub exactly_none : (((k : Reason) → applies k ≡ false) → given applies ≡ 0) × (given applies ≡ 0 → (k : Reason) → applies k ≡ false)
  exactly_none = (λ h. none_zero order (each_of order h), λ e. judged (zero_none order e))
