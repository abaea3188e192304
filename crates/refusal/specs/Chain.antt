-- What is judged in the order of the list: its first reason that applies. So a list of two parts is refused by the first part, and by the second where
-- the first passes. For a list whose reasons stand in order `refusal` computes to `chain`.
use Rattle.refusal.specs.declared.Refusal.{Refusal}
use Rattle.std.specs.Prelude.{zero, suc, ⊤, Result, Ok, Err, is_ok, ℕ, ◌≡◌, refl, Bool, true, false, List, [], ◌∷◌, ◌++◌, if◌then◌else◌}
use Rattle.std.proofs.Common.{sym, ap, arith, ◌∙◌, true≢false}
use Rattle.refusal.specs.Order.{Reason, Judged, number_of, ◌when◌, or_later, judged_by, number_given, refused_for, answer_by}
use Rattle.refusal.specs.Exactly.{not_zero}

abbrev pub chain : List Judged → ℕ
chain [] = 0
chain ((r when b) ∷ l) = if b then number_of r else chain l

pub first_refuses : (l m : List Judged) → (chain l ≡ 0 → ⊥) → chain (l ++ m) ≡ chain l
first_refuses [] m h = absurd (h refl)
first_refuses ((r when true) ∷ l) m h = refl
first_refuses ((r when false) ∷ l) m h = first_refuses l m h

pub first_passes : (l m : List Judged) → chain l ≡ 0 → chain (l ++ m) ≡ chain m
first_passes [] m h = refl
first_passes ((r when true) ∷ l) m h = absurd (not_zero r (sym h))
first_passes ((r when false) ∷ l) m h = first_passes l m h

-- what two parts come to, from what each comes to
pub joined : (l m : List Judged) {a b r : Result ⊤ Refusal} → a ≡ judged_by (chain l) → b ≡ judged_by (chain m) → r ≡ or_later a b → r ≡ judged_by (chain (l ++ m))
joined l m {a} {b} {r} ea eb er = er ∙ ap (λ (x : Result ⊤ Refusal). or_later x b) ea ∙ go (chain l) refl
  where
    go : (n : ℕ) → chain l ≡ n → or_later (judged_by n) b ≡ judged_by (chain (l ++ m))
    go zero z = eb ∙ ap judged_by (sym (first_passes l m z))
    go (suc n) z = ap judged_by (sym z ∙ sym (first_refuses l m (λ y. omega (arith, z, y))))

abbrev refusal_in : Result ⊤ Refusal → Refusal
refusal_in (Ok x) = refused_for 0
refusal_in (Err r) = r

-- one reason alone
pub alone : (r : Reason) (b : Bool) {x : Result ⊤ Refusal} → x ≡ (if b then Err (refused_for (number_of r)) else Ok tt) → x ≡ judged_by (chain ((r when b) ∷ []))
alone r b {x} e = e ∙ go b
  where
    by_some : (n : ℕ) → (n ≡ 0 → ⊥) → Err (refused_for n) ≡ judged_by n
    by_some zero some = absurd (some refl)
    by_some (suc n) some = refl

    go : (b : Bool) → (if b then Err (refused_for (number_of r)) else Ok tt) ≡ judged_by (if b then number_of r else 0)
    go true = by_some (number_of r) (λ z. not_zero r (sym z))
    go false = refl

-- an answer by what is judged: its refusal, or where that passes the answer itself
pub refused_as : {A : Type 0} (n : ℕ) {r : Refusal} (answer : Result A Refusal) → Err r ≡ judged_by n → Err r ≡ answer_by Err answer n
refused_as {A} n {r} answer e = go n e
  where
    go : (n : ℕ) → Err r ≡ judged_by n → Err r ≡ answer_by Err answer n
    go zero w = absurd (true≢false (ap is_ok (sym w)))
    go (suc n) w = ap (λ (x : Result ⊤ Refusal). Err (refusal_in x)) w

pub passed_as : {A : Type 0} (n : ℕ) {y : ⊤} (answer : Result A Refusal) → Ok y ≡ judged_by n → answer ≡ answer_by Err answer n
passed_as {A} n {y} answer e = go n e
  where
    go : (n : ℕ) → Ok y ≡ judged_by n → answer ≡ answer_by Err answer n
    go zero w = refl
    go (suc n) w = absurd (true≢false (ap is_ok w))

-- one test, by how it came out
pub when_passed : (n : ℕ) (b : Bool) {y : ⊤} → ◌≡◌ {A = Result ⊤ Refusal} (Ok y) (if b then Err (refused_for n) else Ok tt) → b ≡ false
when_passed n true e = absurd (true≢false (ap is_ok e))
when_passed n false e = refl

pub when_refused : (n : ℕ) (b : Bool) {r : Refusal} → ◌≡◌ {A = Result ⊤ Refusal} (Err r) (if b then Err (refused_for n) else Ok tt) → (b ≡ true) × (r ≡ refused_for n)
when_refused n true e = (refl, ap refusal_in e)
when_refused n false e = absurd (true≢false (sym (ap is_ok e)))

-- and the number that it gives, alone and before what is judged after it
pub when_number : (n : ℕ) (b : Bool) {x : Result ⊤ Refusal} → x ≡ (if b then Err (refused_for n) else Ok tt) → number_given x ≡ (if b then n else 0)
when_number n true e = ap number_given e
when_number n false e = ap number_given e

pub later_number : (n : ℕ) (b : Bool) (l : Result ⊤ Refusal) {x a : Result ⊤ Refusal} → x ≡ or_later a l → a ≡ (if b then Err (refused_for n) else Ok tt) → number_given x ≡ (if b then n else number_given l)
later_number n true l e h = ap number_given (e ∙ ap (λ (y : Result ⊤ Refusal). or_later y l) h)
later_number n false l e h = ap number_given (e ∙ ap (λ (y : Result ⊤ Refusal). or_later y l) h)

-- what is judged by a number gives that number
pub number_back : (n : ℕ) → number_given (judged_by n) ≡ n
number_back zero = refl
number_back (suc n) = refl

pub number_is : {n : ℕ} {x : Result ⊤ Refusal} → x ≡ judged_by n → number_given x ≡ n
number_is {n} e = ap number_given e ∙ number_back n

-- a refusal of what is judged has its number, which is not 0; what passes has 0
pub refuses_by : {n : ℕ} {x : Result ⊤ Refusal} {r : Refusal} → x ≡ judged_by n → x ≡ Err r → (n ≡ 0 → ⊥) × (r ≡ refused_for n)
refuses_by {n} {x} {r} e h = go n (sym e ∙ h)
  where
    go : (n : ℕ) → judged_by n ≡ Err r → (n ≡ 0 → ⊥) × (r ≡ refused_for n)
    go zero w = absurd (true≢false (ap is_ok w))
    go (suc n) w = ((λ z. omega (arith, z)), sym (ap refusal_in w))

pub passes_by : {n : ℕ} {x : Result ⊤ Refusal} {y : ⊤} → x ≡ judged_by n → x ≡ Ok y → n ≡ 0
passes_by {n} {x} {y} e h = go n (sym e ∙ h)
  where
    go : (n : ℕ) → judged_by n ≡ Ok y → n ≡ 0
    go zero w = refl
    go (suc n) w = absurd (true≢false (sym (ap is_ok w)))

pub both_pass : (l m : List Judged) → chain (l ++ m) ≡ 0 → (chain l ≡ 0) × (chain m ≡ 0)
both_pass [] m h = (refl, h)
both_pass ((r when true) ∷ l) m h = absurd (not_zero r (sym h))
both_pass ((r when false) ∷ l) m h = both_pass l m h

-- where the first passes, so does its condition
pub passes_at : (r : Reason) (b : Bool) (l : List Judged) → chain ((r when b) ∷ l) ≡ 0 → (b ≡ false) × (chain l ≡ 0)
passes_at r true l h = absurd (not_zero r (sym h))
passes_at r false l h = (refl, h)
