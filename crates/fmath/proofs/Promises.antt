-- What `sqrt` and `clamp` promise. Of the root: 13 exactly below zero, at an infinity and at a NaN, and else a root. By cases on the number: the root of one above zero is
-- written with its digits and an exponent, so it is finite, and neither of the two zeros is below zero.
use Rattle.refusal.specs.declared.Refusal.{Refusal}
use Prim.Native.Nat.{ℕ, zero, suc, ◌+◌, ◌*◌, ◌<◌}
use mathlib.Core.Path.{◌≡◌, refl, sym, ap, ◌∙◌}
use mathlib.Core.Bool.{Bool, true, false, not}
use mathlib.Core.List.{[], ◌∷◌}
use native.Mathlib.Nat.{mul-pos}
use native.Mathlib.Omega.{arith}
use borrow.Author.Tests.{lt-ltb, le-ltb}
use lib.IntN.{ℤ, pos, negsuc}
use lib.Ieee.{Float, Format, nan, inf, fin, prec, odd, lt, up, down}
use lib.Ieee.Fits.{up_pos}
use Rattle.refusal.specs.Order.{computed, ◌when◌, refusal, refused_for}
use Rattle.std.specs.Prelude.{if◌then◌else◌, Err, Ok, Result}
use Rattle.root.specs.Root.{number, root_of}
use Rattle.checked.specs.Finite.{finite, +0}
use Rattle.fmath.specs.Answer.{no_root, number_or, sqrt_answer}
use Rattle.fmath.specs.Promises.{Promised}
use Rattle.fmath.proofs.Clamping.{side_exactly, value_by_side, side_of_nan, zero_untouched}

odd_fine : (d : ℕ) (s : Bool) (q k l : ℕ) → finite (odd d s q k l) ≡ true
unfolding finite odd
odd_fine d s zero k l = refl
odd_fine d s (suc q) k l = refl

number_fine : (p r : ℕ) (h : ℤ) → finite (number p r h) ≡ true
unfolding number
number_fine p r (pos k) = odd_fine p false r k 0
number_fine p r (negsuc k) = odd_fine p false r 0 (suc k)

zero_not_below : (s : Bool) (e : ℤ) → lt (fin s zero e) +0 ≡ false
unfolding lt
zero_not_below true e = le-ltb 0 (0 * up e * 1 + 0 * down e) (omega arith)
zero_not_below false e = le-ltb (0 * up e * 1) (0 * down e) (omega arith)

above_not_below : (m : ℕ) (e : ℤ) → lt (fin false m e) +0 ≡ false
unfolding lt
above_not_below m e = le-ltb (m * up e * 1) (0 * down e) (omega arith)

below_is_below : (m : ℕ) (e : ℤ) → lt (fin true (suc m) e) +0 ≡ true
unfolding lt
below_is_below m e = let p : 0 < suc m * up e = mul-pos (omega arith) (up_pos e) in lt-ltb 0 (suc m * up e * 1 + 0 * down e) (omega arith)

fine_exactly : (f : Format) (x : Float) → finite (root_of f x) ≡ not (no_root x)
unfolding finite root_of no_root
fine_exactly f nan = refl
fine_exactly f (inf s) = refl
fine_exactly f (fin s zero e) = sym (ap not (zero_not_below s e))
fine_exactly f (fin true (suc m) e) = sym (ap not (below_is_below m e))
fine_exactly f (fin false (suc m) e) = number_fine (prec f) _ _ ∙ sym (ap not (above_not_below (suc m) e))

-- the answer, by whether there is a root
answers : (none g : Bool) (x : Float) → g ≡ not none → number_or (refusal (computed when not g ∷ [])) x ≡ (if none then Err (refused_for 13) else Ok x)
answers true g x e = rw e
answers false g x e = rw e

sqrt_answer_lem : (f : Format) (x : Float) → sqrt_answer f x ≡ (if no_root x then Err (refused_for 13) else Ok (root_of f x))
sqrt_answer_lem f x = answers (no_root x) (finite (root_of f x)) (root_of f x) (fine_exactly f x)

unfoldable refused : Result Float Refusal → Bool
refused (Ok x) = false
refused (Err r) = true

only_then : (none : Bool) (x : Float) (a : Result Float Refusal) → a ≡ (if none then Err (refused_for 13) else Ok x) → a ≡ Err (refused_for 13) → none ≡ true
unfolding refused
only_then true x a e h = refl
only_then false x a e h = ap refused (sym e ∙ h)

pub promised : Promised
promised = record {
  sqrt_answer_lem = sqrt_answer_lem;
  sqrt_refused_where = λ f x e. sqrt_answer_lem f x ∙ rw e;
  sqrt_refused_only = λ f x. only_then (no_root x) (root_of f x) (sqrt_answer f x) (sqrt_answer_lem f x);
  side_exactly = side_exactly;
  value_by_side = value_by_side;
  side_of_nan = side_of_nan;
  zero_untouched = zero_untouched;
}
