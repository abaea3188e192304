-- The rules of the checks for a chunk (R5): trips over the rows as they came, and projection row by row from the projected row before.
use Rattle.std.specs.Prelude.{ℕ, zero, suc, ◌+◌, ◌-◌, ◌*◌, Bool, false, ◌&&◌, List, eqb, drop, set, replicate, Float, if◌then◌else◌}
use Rattle.std.specs.Int.Bits.{bit_or}
use Rattle.std.specs.Float.{Format}
use Rattle.std.specs.Float.Ieee.{lt}
use Rattle.checked.specs.Constants.{2!, 3! }
use Rattle.checked.specs.Each.{at, all, some, over}
use Rattle.checked.specs.Finite.{+0}
use Rattle.checked.specs.Row.{padded}
use Rattle.checked.specs.Checked.{Checked, ◌>>=◌, pure, plus, minus, times, each}
use Rattle.checked.specs.Least.{greatest}
use Rattle.fmath.specs.Norm.{norm, dist}
use Rattle.workspace.specs.declared.WallMasks.{WallMasks}
use Rattle.workspace.specs.Of.{walls_in}
use Rattle.workspace.specs.Rule.{any_masks, unmoved}
use Rattle.envelope.specs.declared.ClampMode.{ClampMode}
use Rattle.envelope.specs.declared.ClampMode.TheVariants.{Off, Project}
use Rattle.tier0.specs.declared.Checks.{Checks}
use Rattle.tier0.specs.declared.Difference.{Difference}
use Rattle.tier0.specs.declared.Difference.TheVariants.{Accel, Jerk}
use Rattle.tier0.specs.Rule.{SPEED, ACCEL, JERK, arms, box_dims, Slow, slow_zone, out_of_workspace, out_of_reach, trip_bits, moves, moved_dims, Projected, moves_inside, Judgement}

-- ---- rows

-- row i as it came, n numbers and zeros up to eight
abbrev pub raw_row : List Float → ℕ → ℕ → List Float
raw_row rows n i = padded (drop (i * n) rows) n

-- before row 0: the position on the shared coordinates, row 0 itself on the others
unfoldable pub start_row : Checks → List Float → List Float → List Float
start_row s p rows = over (at p) (raw_row rows s.dim 0) (box_dims s)

-- the row before row i, where q stands before row 0
unfoldable pub row_before : List Float → List Float → ℕ → ℕ → List Float
row_before q rows n i = if eqb i 0 then q else raw_row rows n (i - 1)

-- the step to row i
unfoldable pub step_to : Format → List Float → List Float → ℕ → ℕ → Checked Float
step_to f q rows n i = dist f (raw_row rows n i) (row_before q rows n i) n

-- ---- trips: some row strictly exceeds

-- the greatest step, from 0.0; each is computed
unfoldable pub peak_step : Format → List Float → List Float → ℕ → ℕ → Checked Float
peak_step f q rows n h = record { value = greatest +0 (λ (i : ℕ). (step_to f q rows n i).value) h; sound = all (λ (i : ℕ). (step_to f q rows n i).sound) h }

-- some step is longer than `most`
unfoldable pub some_longer : Format → List Float → List Float → ℕ → Float → ℕ → Bool
some_longer f q rows n most h = some (λ (i : ℕ). lt most (step_to f q rows n i).value) h

-- a checked test holds somewhere below n; each is evaluated
unfoldable pub some_of : (ℕ → Checked Bool) → ℕ → Checked Bool
some_of g n = record { value = some (λ (i : ℕ). (g i).value) n; sound = all (λ (i : ℕ). (g i).sound) n }

-- some row is out of the workspace; each is asked, whatever the others say
unfoldable pub some_out_of_workspace : Format → Checks → List Float → ℕ → Checked Bool
some_out_of_workspace f s rows h = some_of (λ (i : ℕ). out_of_workspace f s (raw_row rows s.dim i)) h

-- next - 2 here + before
unfoldable pub bend : Format → Float → Float → Float → Checked Float
bend f next here before = do
  b ← times f 2! here
  t ← minus f next b
  plus f t before

-- second - 3 next + 3 here - before
unfoldable pub jolt : Format → Float → Float → Float → Float → Checked Float
jolt f second next here before = do
  b ← times f 3! next
  t ← minus f second b
  c ← times f 3! here
  u ← plus f t c
  minus f u before

-- the same on each coordinate of four rows
abbrev pub bends : Format → List Float → List Float → List Float → ℕ → Checked Float
bends f next here before j = bend f (at next j) (at here j) (at before j)

abbrev pub jolts : Format → List Float → List Float → List Float → List Float → ℕ → Checked Float
jolts f second next here before j = jolt f (at second j) (at next j) (at here j) (at before j)

-- a difference of rows over its first n coordinates: its length x inv strictly exceeds `most`
unfoldable pub exceeds : Format → (ℕ → Checked Float) → ℕ → Float → Float → Checked Bool
exceeds f g n inv most = do
  d ← each g (replicate 8 +0) n
  v ← norm f d n
  w ← times f v inv
  pure (lt most w)

-- ACCEL at row i, with inv_dt2; JERK, with inv_dt3
unfoldable pub large_at : Format → Checks → Difference → List Float → List Float → ℕ → Checked Bool
large_at f s Accel q rows i = exceeds f (bends f (raw_row rows s.dim (i + 1)) (raw_row rows s.dim i) (row_before q rows s.dim i)) s.dim s.inv_dt2 s.a_max
large_at f s Jerk q rows i = exceeds f (jolts f (raw_row rows s.dim (i + 2)) (raw_row rows s.dim (i + 1)) (raw_row rows s.dim i) (row_before q rows s.dim i)) s.dim s.inv_dt3 s.j_max

-- the rows that it reads after row i: ACCEL needs 2 rows, JERK 3
abbrev pub further : Difference → ℕ
further Accel = 1
further Jerk = 2

abbrev pub trip_of : Difference → ℕ
trip_of Accel = ACCEL
trip_of Jerk = JERK

-- the difference is too large at some of h rows, where its check is armed
unfoldable pub too_large : Format → Checks → Difference → List Float → List Float → ℕ → Checked Bool
too_large f s d q rows h = if arms s (trip_of d) then some_of (large_at f s d q rows) (h - further d) else pure false

-- ---- projection

-- l with the first n numbers of r over it, from k on
unfoldable pub put_row : List Float → List Float → ℕ → ℕ → List Float
put_row r l k zero = l
put_row r l k (suc j) = set (put_row r l k j) (k + j) (at r j)

-- after some rows: the last projected one, all that are written, and the coordinates moved in any of them
pub record Run : Type 0 where
  pub last : List Float
  pub out : List Float
  pub mask : ℕ

-- row i, from the projected row before it
unfoldable pub next_row : Format → Checks → Slow → List Float → List Float → ℕ → Run → Checked Run
next_row f s z p rows i t = do
  r ← moves f s z p (eqb i 0) t.last (raw_row rows s.dim i)
  pure (record { last = r; out = put_row r t.out (i * s.dim) s.dim; mask = bit_or t.mask (moved_dims (raw_row rows s.dim i) r s.dim) })

-- the first h rows, written over l; q stands before row 0
unfoldable pub run_rows : Format → Checks → Slow → List Float → List Float → List Float → List Float → ℕ → Checked Run
run_rows f s z p rows q l zero = pure (record { last = q; out = l; mask = 0 })
run_rows f s z p rows q l (suc i) = do
  t ← run_rows f s z p rows q l i
  next_row f s z p rows i t

-- under ClampMode Off the rows are written as they came
unfoldable pub projected_rows : Format → Checks → ClampMode → Slow → List Float → List Float → List Float → List Float → ℕ → Checked Projected
projected_rows f s Off z p rows q l h = pure (record { rows = over (at rows) l (h * s.dim); mask = 0 })
projected_rows f s Project z p rows q l h = do
  t ← run_rows f s z p rows q l h
  pure (record { rows = t.out; mask = t.mask })

-- the walls that moved any of h rows, each as it came
unfoldable pub rows_masks : Checks → List Float → ℕ → WallMasks
rows_masks s rows h = if moves_inside s s.clamp then any_masks (walls_in s.shape s.walls) (raw_row rows s.dim) h (box_dims s) else unmoved

-- ---- the check of a chunk of h rows; the projected rows are written over l

unfoldable pub check_chunk : Format → Checks → List Float → List Float → List Float → List Float → ℕ → Checked Judgement
check_chunk f s p aux rows l h = do
  let q = start_row s p rows
  z ← slow_zone f s p aux
  n ← peak_step f q rows s.dim h
  v ← times f n s.inv_dt
  out ← some_out_of_workspace f s rows h
  bent ← too_large f s Accel q rows h
  jolted ← too_large f s Jerk q rows h
  far ← out_of_reach f s p (raw_row rows s.dim 0)
  after ← projected_rows f s s.clamp z p rows q l h
  let fast = arms s SPEED && some_longer f q rows s.dim s.step_max h
  let close = z.inside && some_longer f q rows s.dim z.step h
  pure (record { trips = trip_bits out fast bent jolted far close; peak = v; after = after; walls = rows_masks s rows h })
