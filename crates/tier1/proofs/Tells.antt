-- A number that tells is finite exactly where each number on the way to it is. Sums over rows tell, so one test at the end of a chain is enough;
-- a divisor does not, and has a test of its own.
use Prim.Native.Nat.{ℕ, zero, suc, ◌+◌}
use mathlib.Core.Path.{◌≡◌, refl, sym, ◌∙◌}
use mathlib.Core.Bool.{Bool, true, false, ◌&&◌}
use mathlib.Core.List.{List}
use lib.Ieee.{Float, Format, nan, inf, fin, neg}
use Rattle.checked.specs.Constants.{3! }
use Rattle.checked.specs.Each.{at}
use Rattle.checked.specs.Finite.{finite, +0}
use Rattle.checked.specs.Checked.{Checked, pure, sum_from}
use Rattle.checked.proofs.Absorbing.{Fine, fine_add_left, fine_add_right, fine_sub_left, fine_sub_right, fine_mul_left, fine_mul_right, fine_div_left, fine_root}
use Rattle.checked.proofs.Each.{and_left, and_right}
use Rattle.checked.proofs.Told.{Tells, implied, sum_tells}
use Rattle.tier1.specs.declared.Manifest.{Manifest}
use Rattle.tier1.specs.Rule.{row, ◌⊕◌, ◌⊖◌, ◌⊗◌, ◌⊘◌, squared, rooted, sum_rows, normal, gap, jolt, gaps, steps, jolts, step_length}

-- where the value is finite, so is each number on the way to it
pub record Shows (x : Checked Float) : Type 0 where
  pub so : Fine x.value → x.sound ≡ true

-- the value is finite exactly where each number on the way to it is
pub record Tell (x : Checked Float) : Type 0 where
  pub tells : Tells x

pub shown : {x : Checked Float} → Tell x → Shows x
shown e = record { so = λ h. e.tells ∙ h }

pub pure_shows : (a : Float) → Shows (pure a)
pure_shows a = record { so = λ h. refl }

-- two tests that the last one implies
pub both_implied : (a b v : Bool) → (v ≡ true → a ≡ true) → (v ≡ true → b ≡ true) → a && (b && v) ≡ v
both_implied a b v h g = implied a (b && v) (λ e. h (and_right b v e)) ∙ implied b v g

-- two tests of which each implies the other
same : (a b : Bool) → (a ≡ true → b ≡ true) → (b ≡ true → a ≡ true) → a ≡ b
same true b h g = sym (h refl)
same false true h g = g refl
same false false h g = refl

pub finite_neg : (x : Float) → finite (neg x) ≡ finite x
unfolding finite neg
finite_neg nan = refl
finite_neg (inf s) = refl
finite_neg (fin s m e) = refl

zero_fine : Fine +0
unfolding finite
zero_fine = refl

module _ (f : Format) {x y : Checked Float} (p : Shows x) (q : Shows y) where
  pub plus_tells : Tell (◌⊕◌ f x y)
  plus_tells = record { tells = both_implied x.sound y.sound _ (λ h. p.so (fine_add_left f x.value y.value h)) (λ h. q.so (fine_add_right f x.value y.value h)) }

  pub minus_tells : Tell (◌⊖◌ f x y)
  minus_tells = record { tells = both_implied x.sound y.sound _ (λ h. p.so (fine_sub_left f x.value y.value h)) (λ h. q.so (fine_sub_right f x.value y.value h)) }

  pub times_tells : Tell (◌⊗◌ f x y)
  times_tells = record { tells = both_implied x.sound y.sound _ (λ h. p.so (fine_mul_left f x.value y.value h)) (λ h. q.so (fine_mul_right f x.value y.value h)) }

module _ (f : Format) {x : Checked Float} (p : Shows x) where
  pub squared_tells : Tell (squared f x)
  squared_tells = record { tells = implied x.sound _ (λ h. p.so (fine_mul_left f x.value x.value h)) }

  pub rooted_tells : Tell (rooted f x)
  rooted_tells = record { tells = implied x.sound _ (λ h. p.so (fine_root f x.value h)) }

  -- a quotient tells of its numerator; the divisor is tested by itself
  pub over_tells : (y : Checked Float) → (◌⊘◌ f x y).sound ≡ y.sound && finite (◌⊘◌ f x y).value
  over_tells y = implied x.sound _ (λ h. p.so (fine_div_left f x.value y.value (and_right y.sound _ h)))

  pub over_given_tells : (a : Float) → Tell (◌⊘◌ f x (pure a))
  over_given_tells a = record { tells = over_tells (pure a) }

-- ---- sums over rows

module _ (f : Format) where
  sum_shows : (z : Float) (g : ℕ → Checked Float) → ((j : ℕ) → Tells (g j)) → (n : ℕ) → Fine (sum_from f z g n).value → Fine z × ((sum_from f z g n).sound ≡ true)
  unfolding sum_from
  sum_shows z g t zero h = (h, refl)
  sum_shows z g t (suc j) h =
      let s = (sum_from f z g j).value in
      let x = (g j).value in
      let w = sum_shows z g t j (fine_add_left f s x h) in
      (w.0, rw (w.1, t j, fine_add_right f s x h) h)

  rows_tell : (g : ℕ → ℕ → Checked Float) (d : ℕ) → ((i c : ℕ) → Tells (g i c)) → (n : ℕ) → Tells (sum_rows f g d n)
  unfolding sum_rows
  rows_tell g d t zero = sym zero_fine
  rows_tell g d t (suc i) =
      let s = sum_rows f g d i in
      let r = sum_from f s.value (g i) d in
      same (s.sound && r.sound) (finite r.value)
      (λ h. sym (sum_tells f s.value (g i) (sym (rows_tell g d t i) ∙ and_left s.sound r.sound h) (t i) d) ∙ and_right s.sound r.sound h)
      (λ h. let w = sum_shows s.value (g i) (t i) d h in rw (rows_tell g d t i, w.0) w.1)

  module _ (m : Manifest) where
    normal_shows : (c : ℕ) (x : Float) → Shows (normal f m c x)
    unfolding normal
    normal_shows c x = shown (times_tells f (shown (minus_tells f (pure_shows x) (pure_shows (at m.center c)))) (pure_shows (at m.inverse c)))

    three_shows : (c : ℕ) (x : Float) → Shows (◌⊗◌ f (pure 3!) (normal f m c x))
    three_shows c x = shown (times_tells f (pure_shows 3!) (normal_shows c x))

    gap_tells : (a b : List Float) (c : ℕ) → Tells (gap f m a b c)
    unfolding gap
    gap_tells a b c = (squared_tells f (shown (minus_tells f (normal_shows c (at a c)) (normal_shows c (at b c))))).tells

    jolt_tells : (p q r s : List Float) (c : ℕ) → Tells (jolt f m p q r s c)
    unfolding jolt
    jolt_tells p q r s c =
        (squared_tells f (shown (minus_tells f (shown (plus_tells f (shown (minus_tells f (normal_shows c (at p c)) (three_shows c (at q c)))) (three_shows c (at r c)))) (normal_shows c (at s c))))).tells

    pub gaps_tell : (a : List Float) (k : ℕ) (b : List Float) (n : ℕ) → Tell (sum_rows f (gaps f m a k b) m.dim n)
    gaps_tell a k b n = record { tells = rows_tell (gaps f m a k b) m.dim (λ i c. gap_tells (row a m.dim (k + i)) (row b m.dim i) c) n }

    pub jolts_tell : (b : List Float) (n : ℕ) → Tell (sum_rows f (jolts f m b) m.dim n)
    jolts_tell b n =
        record { tells = rows_tell (jolts f m b) m.dim (λ i c. jolt_tells (row b m.dim (i + 3)) (row b m.dim (i + 2)) (row b m.dim (i + 1)) (row b m.dim i) c) n }

    length_tells : (b : List Float) (i : ℕ) → Tells (step_length f m b i)
    unfolding step_length
    length_tells b i =
        let s : Tell (sum_from f +0 (steps f m b i) m.dim) = record { tells = sum_tells f +0 (steps f m b i) zero_fine (gap_tells (row b m.dim (1 + i)) (row b m.dim i)) m.dim } in
        (rooted_tells f (shown s)).tells

    pub lengths_tell : (b : List Float) (n : ℕ) → Tell (sum_from f +0 (step_length f m b) n)
    lengths_tell b n = record { tells = sum_tells f +0 (step_length f m b) zero_fine (length_tells b) n }
