-- What a leg reaches, and a forecast: finite numbers on the live axes, where each number on the way is finite. And a plant of eight axes that rest past the live ones, from which a second run starts: its first
-- axes, with zeros past them, are all of it.
use Prim.Native.Nat.{ℕ, zero, suc, ◌≤◌, ◌<◌, min}
use mathlib.Core.Path.{◌≡◌, refl, sym, ap, ◌∙◌}
use mathlib.Core.Bool.{true}
use mathlib.Core.List.{List}
use native.Mathlib.Nat.{lt_of_not-le}
use native.Mathlib.Decide.{dec_le}
use native.Mathlib.Omega.{arith}
use lib.ListN.{length}
use lib.Seq.{ext_get_or}
use lib.Ieee.{Float, Format, nan}
use Rattle.checked.specs.Each.{at, all}
use Rattle.checked.specs.Finite.{finite, +0}
use Rattle.checked.specs.Row.{padded, eight}
use Rattle.checked.proofs.Copy.{padded_at, padded_rest, length_padded}
use Rattle.checked.proofs.Each.{and_left, all_at}
use Rattle.course.specs.Plant.{State}
use Rattle.course.specs.Forecast.{fine}
use Rattle.rollout.specs.Plant.{Gains, Motion, axis, motion_at, substep}
use Rattle.rollout.specs.Rule.{Task, aim, after}
use Rattle.rollout.specs.Leg.{Leg, stepped, reached, leg}
use Rattle.rollout.proofs.Halves.{others}
use Rattle.rollout.proofs.Told.{axis_finite, untouched, substep_sound, length_kept, substep_at, substep_speed}

-- ---- finite numbers

-- axis j of a plant
abbrev FiniteAt : State → ℕ → Type 0
FiniteAt s j = (finite (at s.p j) ≡ true) × (finite (at s.v j) ≡ true)

step_finite : (f : Format) (g : Gains) (a : List Float) (n : ℕ) (s : State) → n ≤ length s.p → n ≤ length s.v → (substep f g a n s).sound ≡ true → (j : ℕ) → j < n → FiniteAt (substep f g a n s).value j
step_finite f g a n s lp lv h j b =
    let w = axis_finite f g (at a j) (motion_at s j) (all_at (λ (i : ℕ). (axis f g (at a i) (motion_at s i)).sound) n (sym (substep_sound f g a s n) ∙ h) j b) in
    (ap finite (substep_at f g a s n j b lp) ∙ w.0, ap finite (substep_speed f g a s n j b lv) ∙ w.1)

-- ---- still past the first n of eight axes

pub record Still (n : ℕ) (s : State) : Type 0 where
  pub places : length s.p ≡ 8
  pub rates : length s.v ≡ 8
  pub rests : (j : ℕ) → n ≤ j → j < 8 → motion_at s j ≡ record { p = +0; v = +0 }

pub start_still : (n : ℕ) (p v : List Float) → Still n (record { p = eight p n; v = eight v n })
unfolding eight
start_still n p v = record {
  places = length_padded p (min n (length p));
  rates = length_padded v (min n (length v));
  rests = λ j h b i. record { p = padded_rest p (min n (length p)) j (omega arith) b i; v = padded_rest v (min n (length v)) j (omega arith) b i };
}

step_still : (f : Format) (g : Gains) (a : List Float) (n : ℕ) (s : State) → Still n s → Still n (substep f g a n s).value
step_still f g a n s w = record {
  places = length_kept f g a s (λ (r : State). r.p) (λ (m : Motion). m.p) (λ r j m. refl) n ∙ w.places;
  rates = length_kept f g a s (λ (r : State). r.v) (λ (m : Motion). m.v) (λ r j m. refl) n ∙ w.rates;
  rests = λ j h b. untouched f g a s n j h ∙ w.rests j h b;
}

-- its first n axes, with zeros past them, are all of it
first_axes : (n : ℕ) (q : List Float) → length q ≡ 8 → ((j : ℕ) → n ≤ j → j < 8 → at q j ≡ +0) → eight q n ≡ q
unfolding eight
first_axes n q l rest = ext_get_or nan (eight q n) q (length_padded q (min n (length q)) ∙ sym l) (λ j b. go j (rw (length_padded q (min n (length q))) at b) (dec_le n j))
  where
    go : (j : ℕ) → j < 8 → Dec (n ≤ j) → at (padded q (min n (length q))) j ≡ at q j
    go j b (yes h) = padded_rest q (min n (length q)) j (omega arith) b ∙ sym (rest j h b)
    go j b (no h) = let c = lt_of_not-le h in padded_at q (min n (length q)) j (omega (arith, l)) (omega (arith, l))

pub own_start : (n : ℕ) (s : State) → Still n s → ◌≡◌ {A = State} (record { p = eight s.p n; v = eight s.v n }) s
own_start n s w = λ i. record {
  p = first_axes n s.p w.places (λ j h b. ap (λ (m : Motion). m.p) (w.rests j h b)) i;
  v = first_axes n s.v w.rates (λ j h b. ap (λ (m : Motion). m.v) (w.rests j h b)) i;
}

-- ---- a leg

module _ (f : Format) (g : Leg) (s : State) (still : Still g.n s) where
  pub reached_still : (m : ℕ) → Still g.n (reached f g s m)
  reached_still m =
      let w = others f g s m in
      record { places = w.as_many_places ∙ still.places; rates = w.as_many_rates ∙ still.rates; rests = λ j h b. w.axis_stays j h ∙ still.rests j h b }

  pub reached_finite : g.n ≤ 8 → ((j : ℕ) → j < g.n → FiniteAt s j) → (m : ℕ) → all (fine (leg f g s m)) m ≡ true → (j : ℕ) → j < g.n → FiniteAt (reached f g s m) j
  unfolding reached stepped
  reached_finite few start zero h = start
  reached_finite few start (suc m) h =
      let w = reached_still m in
      step_finite f g.gains g.aim g.n (reached f g s m) (omega (arith, w.places)) (omega (arith, w.rates))
      (and_left (substep f g.gains g.aim g.n (reached f g s m)).sound _ (all_at (fine (leg f g s (suc m))) (suc m) h m (omega arith)))

-- ---- the forecast

pub after_still : (f : Format) (t : Task) → Still t.n t.start → (k : ℕ) → Still t.n (after f t k)
unfolding after
after_still f t w zero = w
after_still f t w (suc k) = step_still f t.gains (aim f t k) t.n (after f t k) (after_still f t w k)
