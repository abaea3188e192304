-- `envelope::ordered` meets its contract: the loop keeps the answer so far, and what is left of both tables.
use Prim.Native.Nat.{ℕ, suc, ◌+◌, ◌-◌, ◌<◌, ◌≤◌}
use mathlib.Core.Path.{◌≡◌, refl, sym, ap, ◌∙◌}
use mathlib.Core.Bool.{Bool, not, ◌&&◌}
use mathlib.Core.List.{List, ◌∷◌}
use mathlib.Core.Logic.{inl, inr}
use native.Mathlib.Numerals.{add-one}
use native.Mathlib.Omega.{arith}
use borrow.Author.Rules.{rules}
use lib.Ieee.{Float, nan, lt}
use lib.ListN.{length, get_or, drop, length-append, length-drop}
use lib.Seq.{drop-cons}
use Rattle.checked.specs.Each.{at, all}
use Rattle.checked.proofs.Each.{all_more}
use Rattle.envelope.specs.Refusals.{ordered}
use Rattle.envelope.proofs.ordered.Goals as goal

-- the number that is read next is the one at its place
read_next : (l : List Float) (n : ℕ) (x : Float) (r : List Float) → drop n l ≡ x ∷ r → (n < length l) × (x ≡ at l n) × (r ≡ drop (n + 1) l)
read_next l n x r e =
    let long : length l - n ≡ length r + 1 = sym (length-drop n l) ∙ ap length e ∙ omega arith in
    let within : n < length l = omega arith in
    let same : x ∷ r ≡ at l n ∷ drop (suc n) l = sym e ∙ drop-cons l n nan within in
    (within, ap (λ (m : List Float). get_or m 0 nan) same, rw add-one (ap (drop 1) same))

module _ (lo hi : List Float) (n : ℕ) where
  abbrev in_order : ℕ → Bool
  in_order k = not (lt (at hi k) (at lo k))

  turned : {m : ℕ} (ok : Bool) (a b : Float) (ra rb : List Float) → m ≡ n + 1 → length lo ≡ 8 → ok ≡ all in_order n → drop n lo ≡ a ∷ ra → drop n hi ≡ b ∷ rb
      → (m ≤ 8) × ((ok && not (lt b a)) ≡ all in_order m) × (ra ≡ drop m lo) × (rb ≡ drop m hi)
  turned ok a b ra rb em wide so ea eb =
      let u = read_next lo n a ra ea in
      let v = read_next hi n b rb eb in
      rw em (omega (arith, u.0), all_more in_order n ok _ so (rw (u.1, v.1)), u.2, v.2)

pub loop-low-init : goal.loop-low-init
unfolding all
loop-low-init c = record { within = omega arith; so_far = refl; low_left = search rules; high_left = search rules }

pub loop-low-preserved : goal.loop-low-preserved
loop-low-preserved c =
    let l = c.loop-low in
    let h = c.in-Some.ensures.steps in
    let t = turned c.args.lo.now c.args.hi.now (length l.yielded) l.ok _ _ _ _ (length-append l.yielded _) c.told-lo l.invariant.so_far (sym l.invariant.low_left ∙ h.0) (sym l.invariant.high_left ∙ h.1) in
    record { within = t.0; so_far = t.1; low_left = t.2; high_left = t.3 }

-- a table of which nothing is left has been read
read_all : (l r : List Float) (n : ℕ) → length l ≡ 8 → n ≤ 8 → r ≡ drop n l → length r ≡ 0 → n ≡ 8
read_all l r n wide within e none = omega (arith, ap length e ∙ length-drop n l)

pub returns : goal.returns
unfolding ordered
returns c =
    let l = c.loop-low in
    let e : length l.yielded ≡ 8 = elim c.in-None.ensures.steps [
      | inl w ↦ read_all _ _ _ c.told-lo l.invariant.within l.invariant.low_left w.1.0
      | inr w ↦ read_all _ _ _ c.told-hi l.invariant.within l.invariant.high_left w.1.0
    ] in
    rw e at l.invariant.so_far
