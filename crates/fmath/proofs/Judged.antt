-- The answer of an entry that judges 11, then 12, then 13: what it is after each of its tests.
use Rattle.std.specs.Prelude.{Err, Ok, Result}
use mathlib.Core.Path.{◌≡◌, sym, ap, ◌∙◌}
use mathlib.Core.Bool.{Bool, true, false, not, ◌&&◌, ◌||◌}
use mathlib.Core.List.{[], ◌∷◌}
use lib.Ieee.{Float}
use Rattle.refusal.specs.declared.Refusal.{Refusal}
use Rattle.refusal.specs.Order.{short, not_finite, computed, ◌when◌, refusal, refused_for}
use Rattle.checked.specs.Finite.{finite}
use Rattle.checked.specs.Checked.{Checked}
use Rattle.fmath.specs.Answer.{number_or}
use Rattle.checked.proofs.Told.{Tells}

module _ (s n : Bool) (x : Checked Float) where
  abbrev pub answer : Result Float Refusal
  answer = number_or (refusal (short when s ∷ not_finite when n ∷ computed when not x.sound ∷ [])) x.value

  pub is_short : (r : Refusal) → r ≡ refused_for 11 → s ≡ true → Err r ≡ answer
  is_short r e h = rw (e, h)

  pub is_not_finite : (r : Refusal) → r ≡ refused_for 12 → s ≡ false → n ≡ true → Err r ≡ answer
  is_not_finite r e h g = rw (e, h, g)

  -- the test of the last number is a test of all
  pub is_computed : (r : Refusal) (v : Float) (t : Bool) → r ≡ refused_for 13 → s ≡ false → n ≡ false → Tells x → v ≡ x.value → t ≡ finite v → t ≡ false → Err r ≡ answer
  is_computed r v t e h g w d k b = let f : x.sound ≡ false = w ∙ ap finite (sym d) ∙ sym k ∙ b in rw (e, h, g, f)

  pub is_value : (v : Float) (t : Bool) → s ≡ false → n ≡ false → Tells x → v ≡ x.value → t ≡ finite v → t ≡ true → Ok v ≡ answer
  is_value v t h g w d k b = let f : x.sound ≡ true = w ∙ ap finite (sym d) ∙ sym k ∙ b in rw (d, h, g, f)

-- some of two is not fit, where not both are
pub unfit_both : (a b r s t : Bool) → r ≡ a → s ≡ b → not (r && s) ≡ t → (not a || not b) ≡ t
unfit_both true b r s t e h g = rw (e, h) at g
unfit_both false b r s t e h g = rw e at g
