-- A value that tells: each number on the way is finite exactly where the last one is. Sums, products and roots of such values tell too, so
-- one test at the end of a chain is enough.
use mathlib.Core.Path.{◌≡◌, refl, sym, ap, ◌∙◌}
use mathlib.Core.Bool.{Bool, true, false, ◌&&◌, and-true}
use mathlib.Core.List.{List}
use Prim.Native.Nat.{ℕ, zero, suc, ◌+◌}
use native.Mathlib.Numerals.{add-one}
use lib.ListN.{set}
use lib.Ieee.{Float, Format}
use Rattle.checked.specs.Finite.{finite}
use Rattle.checked.specs.Checked.{Checked, sum_from, each}
use Rattle.checked.specs.declared.Row.{Row}
use Rattle.checked.specs.Of.{row_from}
use Rattle.checked.proofs.Absorbing.{Fine, fine_add_left, fine_add_right}

abbrev pub Tells : Checked Float → Type 0
Tells x = x.sound ≡ finite x.value

-- a test that the last one implies can be left out
pub implied : (x z : Bool) → (z ≡ true → x ≡ true) → (x && z) ≡ z
implied true z h = refl
implied false true h = h refl
implied false false h = refl

-- where it is itself told
pub told : (x y z : Bool) → x ≡ y → (z ≡ true → y ≡ true) → (x && z) ≡ z
told x y z e h = rw e (implied y z h)

module _ (f : Format) where
  pub sum_tells : (z : Float) (g : ℕ → Checked Float) → Fine z → ((j : ℕ) → Tells (g j)) → (n : ℕ) → Tells (sum_from f z g n)
  unfolding sum_from
  sum_tells z g h t zero = sym h
  sum_tells z g h t (suc j) =
      let s = (sum_from f z g j).value in
      let x = (g j).value in
      ap (λ (b : Bool). (sum_from f z g j).sound && b) (told _ _ _ (t j) (fine_add_right f s x))
      ∙ told _ _ _ (sum_tells z g h t j) (fine_add_left f s x)

-- one turn of a loop that puts a number over each coordinate: one test of the number that it puts there is enough
module _ (g : ℕ → Checked Float) (l : List Float) (i : ℕ) where
  pub each_value : (r : List Float) (x : Float) → r ≡ (each g l i).value → x ≡ (g i).value → set r i x ≡ (each g l (i + 1)).value
  unfolding each
  each_value r x e h = rw (add-one, e, h)

  pub each_sound : (ok k : Bool) (x : Float) → ok ≡ (each g l i).sound → k ≡ finite x → x ≡ (g i).value → Tells (g i) → (ok && k) ≡ (each g l (i + 1)).sound
  unfolding each
  each_sound ok k x e p h t = rw (add-one, e, p, h, and-true, t)

-- the row at its end
pub a_row : (x : Checked (List Float)) {r : List Float} {k : Bool} → r ≡ x.value → k ≡ x.sound → ◌≡◌ {A = Row} (record { at = r; sound = k }) (row_from x)
a_row x e h = rw (e, h)
