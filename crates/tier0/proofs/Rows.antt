-- The rows of a chunk: one row, the differences of rows, and one turn of each loop over them.
use Prim.Native.Nat.{ℕ, zero, suc, ◌+◌, ◌-◌, ◌*◌, ◌≤◌, ◌<◌}
use mathlib.Core.Path.{◌≡◌, refl, sym, ap, ◌∙◌}
use mathlib.Core.Bool.{Bool, true, false, ◌&&◌, ◌||◌, and-true}
use mathlib.Core.List.{List}
use native.Mathlib.Numerals.{add-one}
use native.Mathlib.Omega.{arith}
use borrow.Author.Tests.{ne_eqb}
use lib.Bits.{bit_or}
use lib.Dec.{eqb}
use lib.ListN.{length, set, replicate, length-set}
use lib.Ieee.{Float, Format, add, sub, mul, lt}
use Rattle.checked.specs.Each.{at, all, some, over}
use Rattle.checked.specs.Finite.{finite, +0}
use Rattle.checked.specs.Checked.{Checked, each}
use Rattle.checked.specs.Least.{greater, greatest}
use Rattle.fmath.specs.Norm.{norm, dist}
use Rattle.checked.proofs.Absorbing.{fine_add_left, fine_add_right, fine_sub_left, fine_sub_right, fine_mul_left}
use Rattle.checked.proofs.Each.{all_more, some_more}
use Rattle.checked.proofs.Extremes.{greatest_more}
use Rattle.checked.proofs.Told.{Tells, implied}
use Rattle.fmath.proofs.Lengths.{dist_tells, norm_tells}
use Rattle.workspace.specs.declared.WallMasks.{WallMasks}
use Rattle.envelope.specs.declared.ClampMode.{ClampMode}
use Rattle.envelope.specs.declared.ClampMode.TheVariants as M
use Rattle.tier0.specs.declared.Checks.{Checks}
use Rattle.tier0.specs.declared.Difference.{Difference}
use Rattle.tier0.specs.declared.Difference.TheVariants as D
use Rattle.tier0.specs.declared.SlowZone.{SlowZone}
use Rattle.tier0.specs.declared.JudgedChunk.{JudgedChunk}
use Rattle.checked.specs.declared.Row.{Row}
use Rattle.checked.specs.declared.Test.{Test}
use Rattle.tier0.specs.declared.Stride.{Stride}
use Rattle.tier0.specs.declared.MovedRows.{MovedRows}
use Rattle.tier0.specs.Rule.{Slow, SPEED, arms, slow_zone, out_of_workspace, out_of_reach, trip_bits, moves, moved_dims, Projected}
use Rattle.tier0.specs.Chunk.{raw_row, start_row, row_before, step_to, peak_step, some_longer, some_out_of_workspace, some_of, bend, jolt, bends, jolts, exceeds, large_at, further, trip_of, too_large, put_row, Run, next_row, run_rows, projected_rows, rows_masks, check_chunk}
use Rattle.tier0.specs.Of.{slow_of, zone_from, steps_from, run_from, moved_rows_from, judged_chunk_from}
use Rattle.checked.specs.Of.{row_from, test_from}

-- ---- one row

pub put_turn : (r l m : List Float) (k i : ℕ) → m ≡ put_row r l k i → set m (k + i) (at r i) ≡ put_row r l k (i + 1)
unfolding put_row
put_turn r l m k i e = rw (add-one, e)

pub length_put : (r l : List Float) (k n : ℕ) → length (put_row r l k n) ≡ length l
unfolding put_row
length_put r l k zero = refl
length_put r l k (suc n) = length-set (put_row r l k n) (k + n) (at r n) ∙ length_put r l k n

pub before_first_lem : (q rows : List Float) (n i : ℕ) → i ≡ 0 → q ≡ row_before q rows n i
unfolding row_before
before_first_lem q rows n i e = rw e

pub before_later : (q rows : List Float) (n i : ℕ) → (i ≡ 0 → ⊥) → {r : List Float} → r ≡ raw_row rows n (i - 1) → r ≡ row_before q rows n i
unfolding row_before
before_later q rows n i h e = rw (ne_eqb i 0 h) e

-- ---- differences tell

pub bend_tells : (f : Format) (a b c : Float) → Tells (bend f a b c)
unfolding bend
bend_tells f a b c = last (mul f _ b)
  where
    last : (x : Float) → (finite x && (finite (sub f a x) && finite (add f (sub f a x) c))) ≡ finite (add f (sub f a x) c)
    last x =
        ap (λ (t : Bool). finite x && t) (implied _ _ (fine_add_left f (sub f a x) c))
        ∙ implied _ _ (λ h. fine_sub_right f a x (fine_add_left f (sub f a x) c h))

pub jolt_tells : (f : Format) (a b c d : Float) → Tells (jolt f a b c d)
unfolding jolt
jolt_tells f a b c d = last (mul f _ b) (mul f _ c)
  where
    last : (x y : Float) → (finite x && (finite (sub f a x) && (finite y && (finite (add f (sub f a x) y) && finite (sub f (add f (sub f a x) y) d))))) ≡ finite (sub f (add f (sub f a x) y) d)
    last x y =
        let t = sub f a x in
        let u = add f t y in
        let u-fine = fine_sub_left f u d in
        ap (λ (z : Bool). finite x && (finite t && (finite y && z))) (implied _ _ u-fine)
        ∙ ap (λ (z : Bool). finite x && (finite t && z)) (implied _ _ (λ h. fine_add_right f t y (u-fine h)))
        ∙ ap (λ (z : Bool). finite x && z) (implied _ _ (λ h. fine_add_left f t y (u-fine h)))
        ∙ implied _ _ (λ h. fine_sub_right f a x (fine_add_left f t y (u-fine h)))

-- one test of the scaled length tells of the length
pub exceeds_is : (f : Format) (g : ℕ → Checked Float) (n : ℕ) (inv most : Float) {d : Row} {v : Float} {k : Bool}
    → d ≡ row_from (each g (replicate 8 +0) n)
    → v ≡ (norm f d.at n).value
    → k ≡ finite (mul f v inv)
    → ◌≡◌ {A = Test} (record { holds = lt most (mul f v inv); sound = d.sound && k }) (test_from (exceeds f g n inv most))
unfolding exceeds
exceeds_is f g n inv most {d} {v} {k} ed ev ek =
    let l = (each g (replicate 8 +0) n).value in
    let x = (norm f l n).value in
    let s : k ≡ (norm f l n).sound && (finite (mul f x inv) && true) = rw (ek, ev, ed, and-true, norm_tells f l n) (sym (implied _ _ (fine_mul_left f x inv))) in
    rw (s, ev, ed)

-- ---- loops over the rows

-- one turn of a loop over a checked test
pub some_turn : (g : ℕ → Checked Bool) (i : ℕ) (b k : Bool) (t : Test) → (b ≡ (some_of g i).value) × (k ≡ (some_of g i).sound) → t ≡ test_from (g i)
    → ((b || t.holds) ≡ (some_of g (i + 1)).value) × ((k && t.sound) ≡ (some_of g (i + 1)).sound)
unfolding some_of
some_turn g i b k t h e = (some_more (λ (j : ℕ). (g j).value) i b t.holds h.0 (ap (λ (x : Test). x.holds) e), all_more (λ (j : ℕ). (g j).sound) i k t.sound h.1 (ap (λ (x : Test). x.sound) e))

pub trips_some : (d : Difference) → 0 < trip_of d
trips_some D.Accel = omega arith
trips_some D.Jerk = omega arith

module _ (f : Format) (s : Checks) (d : Difference) (q rows : List Float) (h : ℕ) {k : Bool} where
  pub large_off : k ≡ arms s (trip_of d) → k ≡ false → ◌≡◌ {A = Test} (record { holds = false; sound = true }) (test_from (too_large f s d q rows h))
  unfolding too_large
  large_off e g = rw (sym e ∙ g)

  pub large_on : k ≡ arms s (trip_of d) → k ≡ true → {t : Test} → t ≡ test_from (some_of (large_at f s d q rows) (h - further d)) → t ≡ test_from (too_large f s d q rows h)
  unfolding too_large
  large_on e g u = rw (sym e ∙ g) u

-- a difference reads few rows
pub reads_few : (d : Difference) → further d ≤ 2
reads_few D.Accel = omega arith
reads_few D.Jerk = omega arith

-- what the loop over the projected rows keeps
pub record Kept (x : Checked Run) (q out : List Float) (mask : ℕ) (ok : Bool) : Type 0 where
  pub all : record { last = q; out = out; mask = mask } ≡ x.value
  pub flag : ok ≡ x.sound

module _ (f : Format) (s : Checks) (z : Slow) (p rows q₀ l₀ : List Float) where
  abbrev run : ℕ → Checked Run
  run i = run_rows f s z p rows q₀ l₀ i

  pub begun : Kept (run 0) q₀ l₀ 0 true
  unfolding run_rows
  begun = record { all = refl; flag = refl }

  value_turn : (i : ℕ) (x y : Run) → x ≡ (run i).value → y ≡ (next_row f s z p rows i x).value → y ≡ (run (i + 1)).value
  unfolding run_rows
  value_turn i x y e h = rw (add-one, ← e) h

  sound_turn : (i : ℕ) (x : Run) (ok k : Bool) → x ≡ (run i).value → ok ≡ (run i).sound → k ≡ (next_row f s z p rows i x).sound → (ok && k) ≡ (run (i + 1)).sound
  unfolding run_rows
  sound_turn i x ok k e g h = rw (add-one, ← e, g, h)

  pub row_turn : (i : ℕ) (q l m : List Float) (mask k : ℕ) (ok : Bool) (a : List Float) (r : Row)
      → Kept (run i) q l mask ok
      → a ≡ raw_row rows s.dim i
      → r ≡ row_from (moves f s z p (eqb i 0) q a)
      → k ≡ moved_dims a r.at s.dim
      → m ≡ put_row r.at l (i * s.dim) s.dim
      → Kept (run (i + 1)) r.at m (bit_or mask k) (ok && r.sound)
  unfolding next_row
  row_turn i q l m mask k ok a r h ea er ek em =
      let x : Run = record { last = q; out = l; mask = mask } in
      record {
        all = value_turn i x _ h.all (rw (ek, em, er, ea));
        flag = sound_turn i x ok r.sound h.all h.flag (rw (er, ea, and-true));
      }

-- what the loop over the steps keeps
pub record Strode (f : Format) (s : Checks) (slow : Float) (q rows : List Float) (i : ℕ) (peak : Float) (fast close out told ok : Bool) : Type 0 where
  pub top : peak ≡ (peak_step f q rows s.dim i).value
  pub fast_so : fast ≡ some_longer f q rows s.dim s.step_max i
  pub close_so : close ≡ some_longer f q rows s.dim slow i
  pub out_so : out ≡ (some_out_of_workspace f s rows i).value
  pub told_so : told ≡ (some_out_of_workspace f s rows i).sound
  pub ok_so : ok ≡ (peak_step f q rows s.dim i).sound

module _ (f : Format) (s : Checks) (slow : Float) (q rows : List Float) where
  pub set_out : Strode f s slow q rows 0 +0 false false false true true
  unfolding peak_step some_longer some_out_of_workspace some_of greatest all some
  set_out = record { top = refl; fast_so = refl; close_so = refl; out_so = refl; told_so = refl; ok_so = refl }

  pub stride : (i : ℕ) (peak : Float) (fast close out told ok : Bool) {a b : List Float} {n m : Float} {o : Test} {k : Bool}
      → Strode f s slow q rows i peak fast close out told ok
      → a ≡ raw_row rows s.dim i
      → b ≡ row_before q rows s.dim i
      → n ≡ (dist f a b s.dim).value
      → m ≡ greater peak n
      → o ≡ test_from (out_of_workspace f s a)
      → k ≡ finite n
      → Strode f s slow q rows (i + 1) m (fast || lt s.step_max n) (close || lt slow n) (out || o.holds) (told && o.sound) (ok && k)
  unfolding peak_step some_longer some_out_of_workspace step_to
  stride i peak fast close out told ok {a} {b} {n} {m} {o} {k} h ea eb en em eo ek =
      let w = some_turn (λ (j : ℕ). out_of_workspace f s (raw_row rows s.dim j)) i out told o (h.out_so, h.told_so) (eo ∙ ap (λ (l : List Float). test_from (out_of_workspace f s l)) ea) in
      let e : n ≡ (step_to f q rows s.dim i).value = rw (ea, eb) at en in
      record {
        top = em ∙ greatest_more +0 (λ (j : ℕ). (step_to f q rows s.dim j).value) i peak n h.top e;
        fast_so = some_more (λ (j : ℕ). lt s.step_max (step_to f q rows s.dim j).value) i fast _ h.fast_so (ap (λ (x : Float). lt s.step_max x) e);
        close_so = some_more (λ (j : ℕ). lt slow (step_to f q rows s.dim j).value) i close _ h.close_so (ap (λ (x : Float). lt slow x) e);
        out_so = w.0;
        told_so = w.1;
        ok_so = all_more (λ (j : ℕ). (step_to f q rows s.dim j).sound) i ok k h.ok_so (ek ∙ ap finite e ∙ sym (dist_tells f (raw_row rows s.dim i) (row_before q rows s.dim i) s.dim));
      }

module _ (f : Format) (s : Checks) (q rows : List Float) (i : ℕ) {before here next : List Float} {d : Row} {v : Float} {k : Bool}
    (eb : before ≡ row_before q rows s.dim i) (eh : here ≡ raw_row rows s.dim i) (en : next ≡ raw_row rows s.dim (i + 1)) (ev : v ≡ (norm f d.at s.dim).value) where
  pub bent_at_is : d ≡ row_from (each (bends f next here before) (replicate 8 +0) s.dim) → k ≡ finite (mul f v s.inv_dt2)
      → ◌≡◌ {A = Test} (record { holds = lt s.a_max (mul f v s.inv_dt2); sound = d.sound && k }) (test_from (large_at f s D.Accel q rows i))
  unfolding large_at
  bent_at_is ed ek = exceeds_is f _ s.dim s.inv_dt2 s.a_max (ed ∙ rw (en, eh, eb)) ev ek

  pub jolted_at_is : {second : List Float} → second ≡ raw_row rows s.dim (i + 2) → d ≡ row_from (each (jolts f second next here before) (replicate 8 +0) s.dim) → k ≡ finite (mul f v s.inv_dt3)
      → ◌≡◌ {A = Test} (record { holds = lt s.j_max (mul f v s.inv_dt3); sound = d.sound && k }) (test_from (large_at f s D.Jerk q rows i))
  unfolding large_at
  jolted_at_is es ed ek = exceeds_is f _ s.dim s.inv_dt3 s.j_max (ed ∙ rw (es, en, eh, eb)) ev ek

pub strides_are : (f : Format) (s : Checks) (slow : Float) (q rows : List Float) {i h : ℕ} {peak : Float} {fast close out told ok : Bool} → i ≡ h
    → Strode f s slow q rows i peak fast close out told ok
    → ◌≡◌ {A = Stride} (record { peak = peak; fast = fast; close = close; out = record { holds = out; sound = told }; sound = ok }) (steps_from f s slow q rows h)
strides_are f s slow q rows e w = rw (← e, w.top, w.fast_so, w.close_so, w.out_so, w.told_so, w.ok_so)

-- ---- the projected rows, and the whole check

module _ (f : Format) (s : Checks) (m : ClampMode) (z : Slow) (p rows q l : List Float) (h : ℕ) where
  abbrev projected : Checked Projected
  projected = projected_rows f s m z p rows q l h

  pub rows_off : m ≡ M.Off → {o : List Float} → o ≡ over (at rows) l (h * s.dim) → (◌≡◌ {A = MovedRows} (record { mask = 0; sound = true }) (moved_rows_from projected)) × (o ≡ projected.value.rows)
  unfolding projected_rows
  rows_off e g = rw e (refl, g)

  pub rows_on : m ≡ M.Project → {r : MovedRows} {o : List Float} → (r ≡ run_from (run_rows f s z p rows q l h)) × (o ≡ (run_rows f s z p rows q l h).value.out) → (r ≡ moved_rows_from projected) × (o ≡ projected.value.rows)
  unfolding projected_rows
  rows_on e u = rw (e, and-true) u

pub judge_chunk_is : (f : Format) (s : Checks) (p aux rows l : List Float) (h : ℕ) {z : SlowZone} {q first m : List Float} {t : Stride} {k speed : Bool} {bent jolted far : Test} {c : MovedRows} {bits : ℕ} {w : WallMasks}
    → z ≡ zone_from (slow_zone f s p aux)
    → q ≡ start_row s p rows
    → t ≡ steps_from f s z.step q rows h
    → k ≡ finite (mul f t.peak s.inv_dt)
    → bent ≡ test_from (too_large f s D.Accel q rows h)
    → jolted ≡ test_from (too_large f s D.Jerk q rows h)
    → first ≡ raw_row rows s.dim 0
    → far ≡ test_from (out_of_reach f s p first)
    → speed ≡ arms s SPEED
    → bits ≡ trip_bits t.out.holds (speed && t.fast) bent.holds jolted.holds far.holds (z.inside && t.close)
    → (c ≡ moved_rows_from (projected_rows f s s.clamp (slow_of z) p rows q l h)) × (m ≡ (projected_rows f s s.clamp (slow_of z) p rows q l h).value.rows)
    → w ≡ rows_masks s rows h
    → (◌≡◌ {A = JudgedChunk} (record { trips = bits; mask = c.mask; peak = mul f t.peak s.inv_dt; walls = w; sound = z.sound && (t.sound && (k && (t.out.sound && (bent.sound && (jolted.sound && (far.sound && c.sound)))))) })
    (judged_chunk_from (check_chunk f s p aux rows l h))) × (m ≡ (check_chunk f s p aux rows l h).value.after.rows)
unfolding check_chunk
judge_chunk_is f s p aux rows l h ez eq et ek eb ej e1 ef es ew ec em = (rw (em, ew, ec.0, ef, e1, ej, eb, es, ek, et, eq, ez, and-true), ec.1 ∙ rw (eq, ez))
