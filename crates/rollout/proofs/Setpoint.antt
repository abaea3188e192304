-- The end of a run. Where its setpoint is not sound it stops before the first braking substep, or, where there is none, with all of its entries written; else it has come along
-- all entries, and is sound where they are.
use Prim.Native.Nat.{ℕ, zero, suc, ◌+◌}
use mathlib.Core.Path.{◌≡◌, refl, sym, ap, ◌∙◌}
use mathlib.Core.Bool.{Bool, true, false, ◌&&◌, and-false}
use mathlib.Core.List.{List}
use native.Mathlib.Nat.{add-mul, add-zero}
use native.Mathlib.Omega.{arith}
use lib.Ieee.{Float, Format}
use Rattle.checked.specs.declared.Row.{Row}
use Rattle.checked.specs.Of.{row_from}
use Rattle.checked.proofs.Each.{all_at, all_from}
use Rattle.envelope.specs.Steps.{substeps_of}
use Rattle.workspace.specs.Rule.{inward}
use Rattle.course.specs.declared.Run.{Run}
use Rattle.course.specs.Plant.{State}
use Rattle.course.specs.Rows.{rows_left}
use Rattle.course.specs.Forecast.{fine, written_of}
use Rattle.course.proofs.Along.{along_fails, along_rest, along_at, stands_at, run_is, written_is}
use Rattle.rollout.specs.Rule.{Task, row_substeps, total, setpoint, after, entry, forecast}
use Rattle.rollout.specs.Of.{Along, rolled_of}
use Rattle.rollout.proofs.Rows.{aims_setpoint, setpoint_is}

-- a run that has stopped
abbrev pub stopped : Run → Run
stopped r = record { plant = r.plant; margin = r.margin; done = r.done; sound = false }

-- the rows' substeps and the braking ones are all
pub all_substeps : (t : Task) → row_substeps t + substeps_of t.brake t.per ≡ total t
all_substeps t = sym (add-mul (rows_left t.commit t.from).0 t.brake.0 t.per.0)

module _ (f : Format) (t : Task) (l : List Float) where
  -- a run that has come along all entries
  rolled_is : (r : Run) (out : List Float) → Along f t l (total t) r out → (b : Bool) → b ≡ r.sound && (setpoint f t).sound → ◌≡◌ {A = Run} (record { plant = r.plant; margin = r.margin; done = r.done; sound = b }) (rolled_of f t)
  rolled_is r out h b e =
      let q = run_is (forecast f t) (after f t) l r out h in
      λ i. record { plant = (q i).plant; margin = (q i).margin; done = (q i).done; sound = (e ∙ ap (λ (x : Run). x.sound && (setpoint f t).sound) q) i }

  abbrev Ends : Run → List Float → Type 0
  Ends r out = (r ≡ rolled_of f t) × (out ≡ written_of (forecast f t) l)

  ends : (r : Run) (out : List Float) → Along f t l (total t) r out → (b : Bool) → b ≡ r.sound && (setpoint f t).sound → Ends (record { plant = r.plant; margin = r.margin; done = r.done; sound = b }) out
  ends r out h b e = (rolled_is r out h b e, written_is (forecast f t) (after f t) l r out h)

  -- after the rows
  module _ (r : Run) (out : List Float) (h : Along f t l (row_substeps t) r out) {i : Row} (made : i ≡ row_from (inward f t.walls r.plant.p t.n)) where
    -- what is made from where the run stands is the setpoint
    pub made_is : r.sound ≡ true → i ≡ row_from (setpoint f t)
    made_is s =
        made
        ∙ ap (λ (q : State). row_from (inward f t.walls q.p t.n)) (stands_at (forecast f t) (after f t) l (row_substeps t) r out h s)
        ∙ ap row_from (setpoint_is f t)

    made_sound : r.sound ≡ true → i.sound ≡ (setpoint f t).sound
    made_sound s = ap (λ (x : Row). x.sound) (made_is s)

    first_unsound : (setpoint f t).sound ≡ false → fine (forecast f t) (row_substeps t) ≡ false
    unfolding entry
    first_unsound e = rw (aims_setpoint f t (row_substeps t) (omega arith), e)

    -- its setpoint is not sound
    pub unmade : i.sound ≡ false → Ends (stopped r) out
    unmade e = go r.sound refl
      where
        goes_on : r.sound ≡ true → (m : ℕ) → row_substeps t + m ≡ total t → Ends (stopped r) out
        goes_on s zero q =
            ends r out (along_at (forecast f t) (after f t) l (total t) r out (row_substeps t) (sym (add-zero (row_substeps t)) ∙ q) h) false
            (sym (ap (λ (b : Bool). r.sound && b) (sym (made_sound s) ∙ e) ∙ and-false r.sound))
        goes_on s (suc m) q =
            let fails = along_fails (forecast f t) (after f t) l (row_substeps t) r out h s (first_unsound (sym (made_sound s) ∙ e)) in
            let rest = along_rest (forecast f t) (after f t) l (row_substeps t + 1) (stopped r) out refl fails m in
            ends (stopped r) out (along_at (forecast f t) (after f t) l (total t) (stopped r) out (row_substeps t + 1 + m) (omega (arith, q)) rest) false refl

        go : (b : Bool) → r.sound ≡ b → Ends (stopped r) out
        go true s = goes_on s (substeps_of t.brake t.per) (all_substeps t)
        go false s =
            let rest = along_rest (forecast f t) (after f t) l (row_substeps t) r out s h (substeps_of t.brake t.per) in
            ends r out (along_at (forecast f t) (after f t) l (total t) r out (row_substeps t + substeps_of t.brake t.per) (all_substeps t) rest) false (sym (ap (λ (b : Bool). b && (setpoint f t).sound) s))

    -- it is, and the run has come along the braking substeps, too
    pub all_come : i.sound ≡ true → (q : Run) (last : List Float) → Along f t l (total t) q last → Ends q last
    all_come e q last k = ends q last k q.sound (sound-told q.sound refl)
      where
        before : q.sound ≡ true → r.sound ≡ true
        before s =
            let every = sym k.whole ∙ s in
            h.whole ∙ all_from (fine (forecast f t)) (row_substeps t) (λ j b. all_at (fine (forecast f t)) (total t) every j (omega (arith, all_substeps t, b)))

        sound-told : (b : Bool) → q.sound ≡ b → b ≡ b && (setpoint f t).sound
        sound-told true s = sym e ∙ made_sound (before s)
        sound-told false s = refl
