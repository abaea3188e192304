-- Committed rows and substeps: substep i * per + j goes towards row from + i, and the rows' substeps fit before the braking ones.
use mathlib.Core.Path.{◌≡◌, refl, ap, ◌∙◌}
use mathlib.Core.List.{List}
use Prim.Native.Nat.{ℕ, zero, suc, ◌+◌, ◌*◌, ◌≤◌, ◌<◌}
use native.Mathlib.Nat.{suc-mul}
use native.Mathlib.Numerals.{add-one}
use native.Mathlib.Omega.{arith}
use borrow.Author.Tests.{lt-ltb, le-ltb}
use lib.Arith.{digits_div}
use lib.Ieee.{Float, Format}
use Rattle.checked.specs.Checked.{pure}
use Rattle.chunk.specs.Rule.{row_of}
use Rattle.chunk.proofs.Rows.{row_within_lem}
use Rattle.workspace.specs.Rule.{inward}
use Rattle.course.specs.Plant.{State}
use Rattle.rollout.specs.Plant.{substep}
use Rattle.rollout.specs.Rule.{Task, row_substeps, row_at, followed, setpoint, aimed, aim, after}
use Rattle.course.specs.Rows.{rows_left}

-- one row more
pub row_more : (i per : ℕ) → (i + 1) * per ≡ i * per + per
row_more i per = ap (λ (y : ℕ). y * per) (add-one i) ∙ suc-mul i per

module _ (f : Format) (t : Task) where
  pub aims_row : (i j : ℕ) → i < (rows_left t.commit t.from).0 → j < t.per.0 → aimed f t (i * t.per.0 + j) ≡ pure (row_of t.rows t.horizon t.dim (t.from + i))
  unfolding aimed
  aims_row i j h b =
      let l : i * t.per.0 + j < row_substeps t = omega (arith, row_within_lem i (rows_left t.commit t.from).0 t.per.0 h) in
      rw (lt-ltb (i * t.per.0 + j) (row_substeps t) l, digits_div i b)

  aim_row : (k : ℕ) → k < row_substeps t → aim f t k ≡ row_at t k
  unfolding aimed
  aim_row k h = rw (aim, lt-ltb k (row_substeps t) h)

  -- while rows are committed the plant is where they push it
  pub after_pushed : (k : ℕ) → k ≤ row_substeps t → after f t k ≡ followed f t k
  unfolding after followed
  after_pushed zero h = refl
  after_pushed (suc k) h =
      ap (λ (a : List Float). (substep f t.gains a t.n (after f t k)).value) (aim_row k h)
      ∙ ap (λ (s : State). (substep f t.gains (row_at t k) t.n s).value) (after_pushed k (omega arith))

  pub aims_setpoint : (k : ℕ) → row_substeps t ≤ k → aimed f t k ≡ setpoint f t
  unfolding aimed
  aims_setpoint k h = rw (le-ltb k (row_substeps t) h)

  -- which is made where they leave it
  pub setpoint_is : inward f t.walls (after f t (row_substeps t)).p t.n ≡ setpoint f t
  unfolding setpoint
  setpoint_is = ap (λ (s : State). inward f t.walls s.p t.n) (after_pushed (row_substeps t) (omega arith))
