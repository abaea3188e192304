-- What each step of the pull answers, as a row of its parts: on plain values, at any format.
use Prim.Native.Nat.{ℕ, ◌≤◌, ◌<◌}
use mathlib.Core.Path.{◌≡◌, refl, sym, ap, ◌∙◌}
use mathlib.Core.Bool.{Bool, true, false, ◌&&◌, and-true}
use mathlib.Core.List.{List}
use lib.Ieee.{Float, Format, mul, div, lt}
use lib.ListN.{length}
use Rattle.checked.specs.Each.{at, over}
use Rattle.checked.specs.Finite.{finite}
use Rattle.checked.specs.Checked.{pure, each}
use Rattle.checked.specs.declared.Row.{Row}
use Rattle.checked.specs.Of.{row_from}
use Rattle.fmath.specs.Norm.{dist}
use Rattle.std.specs.Prelude.{if◌then◌else◌}
use Rattle.checked.proofs.Each.{over_keeps, length_over}
use Rattle.checked.proofs.Sums.{each_same, each_over}
use Rattle.fmath.proofs.Lengths.{dist_sound, dist_same}
use Rattle.pull.specs.Rule.{leash_shrink, towards, shortened, pulled}

module _ (f : Format) (most : Float) (q : List Float) (n : ℕ) (a : List Float) where
  pub shortened_is : (far : Float) {k l : Bool} {r : Row}
      → k ≡ finite (mul f most (leash_shrink f))
      → l ≡ finite (div f (mul f most (leash_shrink f)) far)
      → r ≡ row_from (each (towards f (div f (mul f most (leash_shrink f)) far) q a) a n)
      → ◌≡◌ {A = Row} (record { at = r.at; sound = k && (l && r.sound) }) (row_from (shortened f most far q n a))
  unfolding shortened
  shortened_is far e h g = rw (e, h, g)

  module _ {far : Float} {k : Bool} (e : far ≡ (dist f a q n).value) (h : k ≡ finite far) where
    pub pulled_near : lt most far ≡ false → ◌≡◌ {A = Row} (record { at = a; sound = k }) (row_from (pulled f most q n a))
    unfolding pulled
    pulled_near t = rw (dist_sound f a q n e h, ap (λ (x : Float). lt most x) (sym e) ∙ t, and-true)

    pub pulled_far : lt most far ≡ true → {r : Row} → r ≡ row_from (shortened f most far q n a) → ◌≡◌ {A = Row} (record { at = r.at; sound = k && r.sound }) (row_from (pulled f most q n a))
    unfolding pulled
    pulled_far t g = rw (dist_sound f a q n e h, ap (λ (x : Float). lt most x) (sym e) ∙ t, g, e)

-- towards points that agree on the coordinates that are pulled
pub pulled_same : (f : Format) (most : Float) (q r : List Float) (n : ℕ) (a : List Float) → ((j : ℕ) → j < n → at q j ≡ at r j) → pulled f most q n a ≡ pulled f most r n a
unfolding pulled shortened
pulled_same f most q r n a e =
    rw (dist_same f a q a r n (λ j l. refl) e, each_same (towards f (div f (mul f most (leash_shrink f)) (dist f a r n).value) q a) (towards f (div f (mul f most (leash_shrink f)) (dist f a r n).value) r a) a n (λ j l. rw (e j l)))

-- the coordinates that are not pulled stay, and a row has as many afterwards
module _ (f : Format) (most : Float) (q : List Float) (n : ℕ) (a : List Float) where
  abbrev far : Float
  far = (dist f a q n).value

  shortened_over : (shortened f most far q n a).value ≡ over (λ (j : ℕ). (towards f (div f (mul f most (leash_shrink f)) far) q a j).value) a n
  unfolding shortened
  shortened_over = each_over (towards f (div f (mul f most (leash_shrink f)) far) q a) a n

  pub pulled_keeps : (j : ℕ) → n ≤ j → at (pulled f most q n a).value j ≡ at a j
  unfolding pulled
  pulled_keeps j h = go (lt most far)
    where
      go : (b : Bool) → at (if b then shortened f most far q n a else pure a).value j ≡ at a j
      go true = rw shortened_over (over_keeps (λ (i : ℕ). (towards f (div f (mul f most (leash_shrink f)) far) q a i).value) a n j h)
      go false = refl

  pub length_pulled : length (pulled f most q n a).value ≡ length a
  unfolding pulled
  length_pulled = go (lt most far)
    where
      go : (b : Bool) → length (if b then shortened f most far q n a else pure a).value ≡ length a
      go true = rw shortened_over (length_over (λ (i : ℕ). (towards f (div f (mul f most (leash_shrink f)) far) q a i).value) a n)
      go false = refl

  -- a row that is not further away is not moved
  pub pulled_stays : lt most far ≡ false → (pulled f most q n a).value ≡ a
  unfolding pulled
  pulled_stays t = rw t

  -- and one that is, is shortened
  pub pulled_is : lt most far ≡ true → (pulled f most q n a).value ≡ (shortened f most far q n a).value
  unfolding pulled
  pulled_is t = rw t
