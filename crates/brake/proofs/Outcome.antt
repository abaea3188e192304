-- What a run comes to: where it is sound and the stop distance too, the numbers of the forecast; else the place after its entries.
use Rattle.std.specs.Prelude.{Err}
use Prim.Native.Nat.{ℕ, suc, ◌+◌, ◌≤◌}
use mathlib.Core.Path.{◌≡◌, refl, sym, ap, ◌∙◌}
use mathlib.Core.Bool.{Bool, true, false, not, ◌||◌, true≢false, false≢true}
use native.Mathlib.Numerals.{add-one}
use native.Mathlib.Omega.{arith}
use borrow.Author.Tests.{ne_eqb}
use lib.Ieee.{le}
use Rattle.checked.specs.Each.{all}
use Rattle.checked.specs.Finite.{+0}
use Rattle.course.specs.Forecast.{Forecast, fine, leading_in, place_of, margin_of}
use Rattle.checked.specs.declared.Reckoned.{Reckoned}
use Rattle.course.specs.declared.Run.{Run}
use Rattle.course.proofs.Leading.{leading_whole, leading_le}
use Rattle.brake.specs.Of.{Settles}
use Rattle.brake.specs.Answer.{outcome, forecast_with}

module _ (t : Forecast) (run : Run) (stop : Reckoned) (is : Settles t run stop) where
  unsound_at : (b : Bool) → all (fine t) t.count ≡ b → run.sound ≡ false → place_of t ≡ suc run.done
  unfolding place_of
  unsound_at true w h = let d : run.done ≡ t.count = is.written ∙ leading_whole (fine t) t.count w in rw (w, is.unsound h w, d)
  unsound_at false w h = rw (w, is.written)

  stops_at : (b s : Bool) → run.sound ≡ b → stop.sound ≡ s → (not b || not s) ≡ true → place_of t ≡ suc run.done
  unfolding place_of
  stops_at false s h g e = unsound_at (all (fine t) t.count) refl h
  stops_at true true h g e = absurd (false≢true e)
  stops_at true false h g e =
      let w = is.whole h in
      let d : run.done ≡ t.count = is.written ∙ leading_whole (fine t) t.count w in
      rw (w, sym (ap (λ (r : Reckoned). r.sound) (is.stops h)) ∙ g, d)

  pub fails : (not run.sound || not stop.sound) ≡ true → Err (record { number = 13; place = run.done + 1 }) ≡ outcome t
  unfolding outcome
  fails e = rw (stops_at run.sound stop.sound refl refl e, ne_eqb (suc run.done) 0 (λ z. omega arith), add-one)

  both : (b s : Bool) → (not b || not s) ≡ false → (b ≡ true) × (s ≡ true)
  both true true e = (refl, refl)
  both true false e = absurd (true≢false e)
  both false s e = absurd (true≢false e)

  pub passes : (not run.sound || not stop.sound) ≡ false → forecast_with run.done run.margin (le +0 run.margin) stop.value ≡ outcome t
  unfolding outcome place_of margin_of
  passes e =
      let b = both run.sound stop.sound e in
      let w = is.whole b.0 in
      let r : leading_in t ≡ t.count = leading_whole (fine t) t.count w in
      let x = is.stops b.0 in
      rw (is.written, is.least, x, w, r, sym (ap (λ (r : Reckoned). r.sound) x) ∙ b.1)

-- no more entries are written than there are
pub done_few : (t : Forecast) {done : ℕ} → done ≡ leading_in t → t.count ≤ 4096 → done ≤ 4096
done_few t e few = let b = leading_le (fine t) t.count in omega arith
