-- Rows in a slice: where one lies, and one turn of each loop over rows or coordinates.
use Prim.Native.Nat.{ℕ, ◌+◌, ◌*◌, ◌≤◌}
use mathlib.Core.Path.{◌≡◌, sym, ap, ◌∙◌}
use mathlib.Core.Bool.{Bool, ◌&&◌}
use mathlib.Core.List.{List}
use native.Mathlib.Numerals.{add-one}
use native.Mathlib.Omega.{arith}
use lib.ListN.{length, drop, length-drop}
use lib.Ieee.{Float, Format}
use Rattle.checked.specs.Each.{all}
use Rattle.checked.specs.Finite.{finite, +0}
use Rattle.checked.specs.Checked.{Checked, sum_from}
use Rattle.checked.specs.Least.{greater, greatest}
use Rattle.fmath.specs.Norm.{dist}
use Rattle.checked.proofs.Each.{all_more}
use Rattle.checked.proofs.Extremes.{greatest_more}
use Rattle.fmath.proofs.Lengths.{dist_tells}
use Rattle.tier1.specs.Rule.{row, sum_rows, stride, peak}

-- what is left from where a row starts is at least as long as the row
pub row_long : (i d : ℕ) (l : List Float) {r : List Float} → i * d + d ≤ length l → r ≡ drop (i * d) l → d ≤ length r
row_long i d l h e = rw (e, length-drop) (omega arith)

module _ (f : Format) (g : ℕ → ℕ → Checked Float) (d : ℕ) where
  -- one row more
  pub rows_more : (i : ℕ) (s t : Float) → s ≡ (sum_rows f g d i).value → t ≡ (sum_from f s (g i) d).value → t ≡ (sum_rows f g d (i + 1)).value
  unfolding sum_rows
  rows_more i s t e h = h ∙ rw (e, add-one)

-- ---- the steps of the rows as they came

module _ (f : Format) (d : ℕ) (q b : List Float) where
  abbrev Peaks : ℕ → Float → Bool → Type 0
  Peaks n m k = (m ≡ (peak f d q b n).value) × (k ≡ (peak f d q b n).sound)

  pub first_stride : {n m : Float} {k : Bool} → n ≡ (dist f b q d).value → m ≡ greater +0 n → k ≡ finite n → Peaks 1 m k
  unfolding peak stride greatest all
  first_stride e g h = (g ∙ ap (greater +0) e, h ∙ ap finite e ∙ sym (dist_tells f b q d))

  later : (i : ℕ) → ((dist f (row b d (i + 1)) (row b d i) d).value ≡ (stride f d q b (i + 1)).value) × ((dist f (row b d (i + 1)) (row b d i) d).sound ≡ (stride f d q b (i + 1)).sound)
  unfolding stride
  later i = (rw add-one, rw add-one)

  pub next_stride : (i : ℕ) {m m' x : Float} {k t : Bool} → Peaks (i + 1) m k → x ≡ (dist f (row b d (i + 1)) (row b d i) d).value → m' ≡ greater m x → t ≡ finite x → Peaks (i + 1 + 1) m' (k && t)
  unfolding peak
  next_stride i {m} {m'} {x} {k} {t} w e g h = (
    g ∙ greatest_more +0 (λ (j : ℕ). (stride f d q b j).value) (i + 1) m x w.0 (e ∙ (later i).0),
    all_more (λ (j : ℕ). (stride f d q b j).sound) (i + 1) k t w.1 (h ∙ ap finite e ∙ sym (dist_tells f (row b d (i + 1)) (row b d i) d) ∙ (later i).1),
  )
