-- The number for two arguments together is the earlier of the numbers for each, whatever the order is; and 13 after all that is lent.
use mathlib.Core.Path.{◌≡◌, refl, sym, ◌∙◌}
use mathlib.Core.Bool.{Bool, true, false, ◌||◌}
use mathlib.Core.List.{List, [], ◌∷◌}
use borrow.Author.Tests.{eq-eqb, ne_eqb}
use lib.Dec.{eqb}
use Rattle.refusal.specs.Order.{Reason, computed, number_of, order, first_of, given, ◌when◌, among, ◌or◌, named, earlier}
use Rattle.std.specs.Prelude.{if◌then◌else◌}
use Rattle.refusal.specs.Exactly.{NoneOf, none_zero, not_zero}

-- ---- no reason stands twice in the order

abbrev Fresh : Reason → List Reason → Type 0
Fresh k [] = Unit
Fresh k (j ∷ l) = (eqb (number_of j) (number_of k) ≡ false) × Fresh k l

abbrev Distinct : List Reason → Type 0
Distinct [] = Unit
Distinct (k ∷ l) = Fresh k l × Distinct l

order_distinct : Distinct order
order_distinct = search depth 30

module _ (p : Reason → Bool) where
  -- a reason that is not among some is not the first of them that applies
  another : (k : Reason) (l : List Reason) → Fresh k l → eqb (first_of p l) (number_of k) ≡ false
  another k [] h = ne_eqb 0 (number_of k) (not_zero k)
  another k (j ∷ l) h = go (p j) (another k l h.1)
    where
      go : (a : Bool) → eqb (first_of p l) (number_of k) ≡ false → eqb (if a then number_of j else first_of p l) (number_of k) ≡ false
      go true e = h.0
      go false e = e

-- ---- two arguments

module _ (p q : Reason → Bool) where
  first_or : (l : List Reason) → Distinct l → first_of (p or q) l ≡ first_of (named (first_of p l) or named (first_of q l)) l
  first_or [] h = refl
  first_or (k ∷ l) h = go (p k) (q k) (another p k l h.0) (another q k l h.0) (first_or l h.1)
    where
      itself : eqb (number_of k) (number_of k) ≡ true
      itself = eq-eqb (number_of k) (number_of k) refl

      or-true : (a : Bool) → (a || true) ≡ true
      or-true true = refl
      or-true false = refl

      go : (a b : Bool) → eqb (first_of p l) (number_of k) ≡ false → eqb (first_of q l) (number_of k) ≡ false → first_of (p or q) l ≡ first_of (named (first_of p l) or named (first_of q l)) l
          → (if a || b then number_of k else first_of (p or q) l) ≡ first_of (named (if a then number_of k else first_of p l) or named (if b then number_of k else first_of q l)) (k ∷ l)
      go true b ep eq e = rw itself
      go false true ep eq e = rw (itself, or-true (eqb (first_of p l) (number_of k)))
      go false false ep eq e = rw (ep, eq) e

  pub given_or : given (p or q) ≡ earlier (given p) (given q)
  given_or = first_or order order_distinct

  none_first : (l : List Reason) → first_of (p or q) l ≡ 0 → (first_of p l ≡ 0) × (first_of q l ≡ 0)
  none_first [] e = (refl, refl)
  none_first (k ∷ l) e = go (p k) (q k) e (none_first l)
    where
      go : (a b : Bool) → (if a || b then number_of k else first_of (p or q) l) ≡ 0 → (first_of (p or q) l ≡ 0 → (first_of p l ≡ 0) × (first_of q l ≡ 0)) → ((if a then number_of k else first_of p l) ≡ 0) × ((if b then number_of k else first_of q l) ≡ 0)
      go true b e on = absurd (not_zero k (sym e))
      go false true e on = absurd (not_zero k (sym e))
      go false false e on = on e

  -- nothing applies to either
  pub neither_applies : given (p or q) ≡ 0 → (given p ≡ 0) × (given q ≡ 0)
  neither_applies = none_first order

-- ---- 13 after all that is lent

-- what is judged after a reason
abbrev pub after : Reason → List Reason → List Reason
after r [] = []
after r (k ∷ l) = if eqb (number_of r) (number_of k) then l else after r l

module _ (p : Reason → Bool) (y : Bool) where
  abbrev with_computed : Reason → Bool
  with_computed = p or among ((computed when y) ∷ [])

  kept_first : (l : List Reason) → NoneOf p (after computed l) → (first_of p l ≡ 0 → ⊥) → first_of with_computed l ≡ first_of p l
  kept_first [] h f = absurd (f refl)
  kept_first (k ∷ l) h f = go (p k) (eqb (number_of computed) (number_of k)) h f (kept_first l)
    where
      go : (a b : Bool) → NoneOf p (if b then l else after computed l) → ((if a then number_of k else first_of p l) ≡ 0 → ⊥) → (NoneOf p (after computed l) → (first_of p l ≡ 0 → ⊥) → first_of with_computed l ≡ first_of p l)
          → (if a || (if b then y else false) then number_of k else first_of with_computed l) ≡ (if a then number_of k else first_of p l)
      go true b h f on = refl
      go false true h f on = absurd (f (none_zero p l h))
      go false false h f on = on h f

  -- a refusal before the computed numbers is the refusal
  pub refused_first : NoneOf p (after computed order) → (given p ≡ 0 → ⊥) → given with_computed ≡ given p
  refused_first = kept_first order

  -- where nothing is refused before, 13 is the only one left
  pub only_computed : given p ≡ 0 → given with_computed ≡ (if y then 13 else 0)
  only_computed e = given_or p (among ((computed when y) ∷ [])) ∙ rw e (go y)
    where
      go : (y : Bool) → earlier 0 (if y then 13 else 0) ≡ (if y then 13 else 0)
      go true = refl
      go false = refl
