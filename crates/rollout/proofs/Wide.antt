-- All eight axes abreast: on the first n they move as n axes do, and the slack of n axes looks at no other.
use mathlib.Core.Path.{◌≡◌, refl, sym, ap, ◌∙◌}
use mathlib.Core.Bool.{true, false}
use mathlib.Core.List.{List}
use Prim.Native.Nat.{ℕ, zero, suc, ◌+◌, ◌≤◌, ◌<◌}
use native.Mathlib.Nat.{le_refl}
use native.Mathlib.Omega.{arith}
use lib.ListN.{length, set}
use lib.Ieee.{Float, Format}
use Rattle.checked.specs.Each.{at, over}
use Rattle.checked.specs.Least.{lesser}
use Rattle.checked.proofs.Each.{length_over, over_at, over_twice, over_itself}
use Rattle.workspace.specs.declared.Workspace.{Workspace}
use Rattle.checked.specs.declared.Reckoned.{Reckoned}
use Rattle.workspace.specs.Rule.{slack}
use Rattle.workspace.specs.Of.{walls_of}
use Rattle.checked.specs.Of.{reckoned_from}
use Rattle.workspace.proofs.Gaps.{slack_same}
use Rattle.rollout.specs.declared.Law.{Law}
use Rattle.course.specs.declared.Plant.{Plant}
use Rattle.course.specs.declared.Run.{Run}
use Rattle.rollout.specs.Plant.{Gains, Motion, axis, motion_at, substep}
use Rattle.course.specs.Plant.{State}
use Rattle.course.specs.Forecast.{Forecast}
use Rattle.rollout.specs.Of.{gains_of, joined_of, ended_of, leg_of, AlongLeg}
use Rattle.course.specs.Of.{state_of, CameAlong}
use Rattle.rollout.proofs.Told.{put, untouched, length_kept, substep_at, substep_speed}
use Rattle.rollout.proofs.Along.{turn_fails, turn_advances}

-- ---- two plants joined

pub joined_itself : (q : Plant) (n : ℕ) → joined_of q q n ≡ q
joined_itself q n = λ i. record { p = over_itself (at q.p) q.p n (λ j b. refl) i; v = over_itself (at q.v) q.v n (λ j b. refl) i }

-- ---- a substep of m axes, and of the first n

module _
    (f : Format) (g : Gains) (a aim : List Float) (q still : State) (m n : ℕ) (less : n ≤ m) (same : (j : ℕ) → j < n → at aim j ≡ at a j)
    (lp : m ≤ length q.p) (lv : m ≤ length q.v) (sp : n ≤ length still.p) (sv : n ≤ length still.v) where
  abbrev from : State
  from = record { p = over (at q.p) still.p n; v = over (at q.v) still.v n }

  abbrev wide : State
  wide = (substep f g aim m q).value

  from_at : (j : ℕ) → j < n → motion_at from j ≡ motion_at q j
  from_at j b = λ i. record { p = over_at (at q.p) still.p n j b (omega arith) i; v = over_at (at q.v) still.v n j b (omega arith) i }

  wide_at : (j : ℕ) → j < n → (axis f g (at aim j) (motion_at q j)).value ≡ motion_at wide j
  wide_at j b = λ i. record { p = sym (substep_at f g aim q m j (omega arith) lp) i; v = sym (substep_speed f g aim q m j (omega arith) lv) i }

  -- axis j of the first n moves as it does abreast
  moved_at : (j : ℕ) → j < n → (axis f g (at a j) (motion_at (substep f g a j from).value j)).value ≡ motion_at wide j
  moved_at j b =
      ap (λ (x : Motion). (axis f g (at a j) x).value) (untouched f g a from j j (le_refl j) ∙ from_at j b)
      ∙ ap (λ (x : Float). (axis f g x (motion_at q j)).value) (sym (same j b))
      ∙ wide_at j b

  turns : (j : ℕ) → j ≤ n → (substep f g a j from).value ≡ record { p = over (at wide.p) from.p j; v = over (at wide.v) from.v j }
  unfolding substep over
  turns zero b = refl
  turns (suc j) b = ap (λ (x : Motion). put (substep f g a j from).value j x) (moved_at j b) ∙ ap (λ (s : State). put s j (motion_at wide j)) (turns j (omega arith))

  pub abreast_moves : ◌≡◌ {A = State} (record { p = over (at wide.p) still.p n; v = over (at wide.v) still.v n }) (substep f g a n from).value
  abreast_moves = sym (turns n (le_refl n) ∙ (λ i. record { p = over_twice (at wide.p) (at q.p) still.p n i; v = over_twice (at wide.v) (at q.v) still.v n i }))

-- no array gets longer or shorter
pub as_long : (f : Format) (g : Gains) (a : List Float) (n : ℕ) (q next : Plant) → state_of next ≡ (substep f g a n (state_of q)).value → (length next.p ≡ length q.p) × (length next.v ≡ length q.v)
as_long f g a n q next e = (
  ap (λ (s : State). length s.p) e ∙ length_kept f g a (state_of q) (λ (s : State). s.p) (λ (m : Motion). m.p) (λ s j m. refl) n,
  ap (λ (s : State). length s.v) e ∙ length_kept f g a (state_of q) (λ (s : State). s.v) (λ (m : Motion). m.v) (λ s j m. refl) n,
)

-- ---- one turn of the run

-- a run that goes, with its first n axes moved
abbrev pub running : Plant → Plant → ℕ → Float → ℕ → Run
running moved still n margin done = ended_of moved still n margin done true

module _
    (f : Format) (t : Forecast) (stand : ℕ → State) (l : List Float) (k : ℕ) (moved still : Plant) (n : ℕ) (margin : Float) (done : ℕ) (out : List Float) (g : Law) (w : Workspace) (a aim : List Float)
    (h : CameAlong t stand l k (running moved still n margin done) out) (go : AlongLeg f (leg_of f g w n a) t stand k 1 (running moved still n margin done)) (axes : n ≤ 8) (two : 2 ≤ n)
    (lp : length moved.p ≡ 8) (lv : length moved.v ≡ 8) (sp : length still.p ≡ 8) (sv : length still.v ≡ 8) (same : (j : ℕ) → j < n → at aim j ≡ at a j)
    (next : Plant) (e : state_of next ≡ (substep f (gains_of g) aim 8 (state_of moved)).value)
    (d : Reckoned) (v : d ≡ reckoned_from (slack f (walls_of w) next.p n)) where
  steps : state_of (joined_of next still n) ≡ (substep f (gains_of g) a n (state_of (joined_of moved still n))).value
  steps =
      ap (λ (q : State). record { p = over (at q.p) still.p n; v = over (at q.v) still.v n }) e
      ∙ abreast_moves f (gains_of g) a aim (state_of moved) (state_of still) 8 n axes same (omega (arith, lp)) (omega (arith, lv)) (omega (arith, sp)) (omega (arith, sv))

  measures : d ≡ reckoned_from (slack f (walls_of w) (joined_of next still n).p n)
  measures = v ∙ ap reckoned_from (slack_same f w.shape (walls_of w) next.p (over (at next.p) still.p n) n two (λ j b. sym (over_at (at next.p) still.p n j b (omega (arith, sp)))))

  long : n ≤ length (joined_of moved still n).p
  long = omega (arith, length_over (at moved.p) still.p n, sp)

  pub wide_fails : d.sound ≡ false → CameAlong t stand l (k + 1) (ended_of moved still n margin done false) out
  wide_fails = turn_fails f t stand l k (running moved still n margin done) out g w n a h go refl long (joined_of next still n) steps d measures

  pub wide_advances : d.sound ≡ true → (m : Float) → m ≡ lesser margin d.value → CameAlong t stand l (k + 1) (running next still n m (done + 1)) (set out done d.value)
  wide_advances = turn_advances f t stand l k (running moved still n margin done) out g w n a h go refl long (joined_of next still n) steps d measures

-- a run that goes
pub going : (r : Run) → r.sound ≡ true → r ≡ record { plant = r.plant; margin = r.margin; done = r.done; sound = true }
going r e = λ i. record { plant = r.plant; margin = r.margin; done = r.done; sound = e i }
