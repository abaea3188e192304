-- The test of a substep's slack tells of every number that the substep computes: sums, differences and products absorb what isn't finite.
use mathlib.Core.Path.{◌≡◌, refl, ap, ◌∙◌}
use mathlib.Core.Bool.{Bool, true, ◌&&◌, and-true}
use mathlib.Core.List.{List}
use Prim.Native.Nat.{ℕ, zero, suc, ◌+◌, ◌≤◌, ◌<◌}
use native.Mathlib.Numerals.{add-one}
use native.Mathlib.Omega.{arith}
use borrow.Author.Count.{below_more}
use lib.ListN.{length, set, length-set}
use lib.Seq.{get_or-set_same, get_or-set_other}
use lib.Ieee.{Float, Format, nan, add, sub, mul}
use Rattle.checked.specs.Each.{at, all}
use Rattle.checked.specs.Finite.{finite, +0}
use Rattle.fmath.specs.Norm.{dist}
use Rattle.checked.proofs.Each.{◌&&≡◌, and_left, and_right, all_from}
use Rattle.checked.proofs.Absorbing.{fine_add_left, fine_add_right, fine_sub_left, fine_sub_right, fine_mul_left, fine_mul_right}
use Rattle.checked.proofs.Told.{Tells, implied}
use Rattle.fmath.proofs.Lengths.{dist_tells}
use Rattle.workspace.specs.Rule.{Walls, slack}
use Rattle.workspace.proofs.Slacks.{slack_sees}
use Rattle.rollout.specs.Plant.{Gains, Motion, axis, motion_at, substep}
use Rattle.course.specs.Plant.{State}
use Rattle.rollout.specs.Rule.{stop_distance}

-- axis j anew
abbrev pub put : State → ℕ → Motion → State
put r j m = record { p = set r.p j m.p; v = set r.v j m.v }

module _ (f : Format) (g : Gains) where
  -- a finite place at the end tells of each number on the way
  axis_told : (a : Float) (m : Motion) → finite (axis f g a m).value.p ≡ true → (axis f g a m).sound ≡ true
  unfolding axis
  axis_told a m h =
      let e = sub f a m.p in
      let pull = mul f g.kp e in
      let drag = mul f g.kv m.v in
      let acc = sub f pull drag in
      let dv = mul f acc g.dt in
      let v = add f m.v dv in
      let dp = mul f v g.dt in
      let hdp = fine_add_right f m.p dp h in
      let hv = fine_mul_left f v g.dt hdp in
      let hdv = fine_add_right f m.v dv hv in
      let hacc = fine_mul_left f acc g.dt hdv in
      let hpull = fine_sub_left f pull drag hacc in
      let hdrag = fine_sub_right f pull drag hacc in
      let he = fine_mul_right f g.kp e hpull in
      he &&≡ (hpull &&≡ (hdrag &&≡ (hacc &&≡ (hdv &&≡ (hv &&≡ (hdp &&≡ (h &&≡ refl)))))))

  -- where each number on the way is finite, so are the place and the velocity
  pub axis_finite : (a : Float) (m : Motion) → (axis f g a m).sound ≡ true → (finite (axis f g a m).value.p ≡ true) × (finite (axis f g a m).value.v ≡ true)
  unfolding axis
  axis_finite a m h =
      let e = sub f a m.p in
      let pull = mul f g.kp e in
      let drag = mul f g.kv m.v in
      let acc = sub f pull drag in
      let dv = mul f acc g.dt in
      let v = add f m.v dv in
      let dp = mul f v g.dt in
      let from-v = and_right (finite dv) _ (and_right (finite acc) _ (and_right (finite drag) _ (and_right (finite pull) _ (and_right (finite e) _ h)))) in
      (and_left (finite (add f m.p dp)) true (and_right (finite dp) _ (and_right (finite v) _ from-v)), and_left (finite v) _ from-v)

  module _ (a : List Float) (s : State) where
    -- one turn of a loop over the axes
    pub substep_more : (j : ℕ) (r : State) (m : Motion) → r ≡ (substep f g a j s).value → m ≡ (axis f g (at a j) (motion_at r j)).value
        → put r j m ≡ (substep f g a (j + 1) s).value
    unfolding substep
    substep_more j r m h e = rw (add-one, e, h)

    -- an axis that is not reached yet is as it was
    pub untouched : (n j : ℕ) → n ≤ j → motion_at (substep f g a n s).value j ≡ motion_at s j
    unfolding substep
    untouched zero j h = refl
    untouched (suc n) j h =
        let t = (substep f g a n s).value in
        let m = (axis f g (at a n) (motion_at t n)).value in
        let d : j ≡ n → ⊥ = λ e. omega arith in
        rw (get_or-set_other t.p n j m.p nan d, get_or-set_other t.v n j m.v nan d) (untouched n j (omega arith))

    pub substep_sound : (n : ℕ) → (substep f g a n s).sound ≡ all (λ (j : ℕ). (axis f g (at a j) (motion_at s j)).sound) n
    unfolding substep all
    substep_sound zero = refl
    substep_sound (suc n) = rw (untouched n n (omega arith), substep_sound n) (ap (λ (b : Bool). all (λ (j : ℕ). (axis f g (at a j) (motion_at s j)).sound) n && b) (and-true (axis f g (at a n) (motion_at s n)).sound))

    -- the places, or the velocities: what is put over one axis is put over one of them
    module _ (side : State → List Float) (part : Motion → Float) (puts : (r : State) (j : ℕ) (m : Motion) → side (put r j m) ≡ set (side r) j (part m)) where
      pub length_kept : (n : ℕ) → length (side (substep f g a n s).value) ≡ length (side s)
      unfolding substep
      length_kept zero = refl
      length_kept (suc n) =
          let t = (substep f g a n s).value in
          let m = (axis f g (at a n) (motion_at t n)).value in
          ap length (puts t n m) ∙ length-set (side t) n (part m) ∙ length_kept n

      -- where an axis stands afterwards, or how fast it moves
      pub part_at : (n j : ℕ) → j < n → n ≤ length (side s) → at (side (substep f g a n s).value) j ≡ part (axis f g (at a j) (motion_at s j)).value
      unfolding substep
      part_at zero j h l = absurd (omega arith)
      part_at (suc n) j h l =
          let t = (substep f g a n s).value in
          let m = (axis f g (at a n) (motion_at t n)).value in
          ap (λ (x : List Float). at x j) (puts t n m)
          ∙ below_more (λ (i : ℕ). at (set (side t) n (part m)) i ≡ part (axis f g (at a i) (motion_at s i)).value) n
          (λ i b. let d : i ≡ n → ⊥ = λ e. omega arith in get_or-set_other (side t) n i (part m) nan d ∙ part_at n i b (omega arith))
          (get_or-set_same (side t) n (part m) nan (rw (length_kept n) (omega arith)) ∙ ap (λ (x : Motion). part (axis f g (at a n) x).value) (untouched n n (omega arith)))
          j (omega arith)

    pub substep_at : (n j : ℕ) → j < n → n ≤ length s.p → at (substep f g a n s).value.p j ≡ (axis f g (at a j) (motion_at s j)).value.p
    substep_at n j = part_at (λ (r : State). r.p) (λ (m : Motion). m.p) (λ r i m. refl) n j

    pub substep_speed : (n j : ℕ) → j < n → n ≤ length s.v → at (substep f g a n s).value.v j ≡ (axis f g (at a j) (motion_at s j)).value.v
    substep_speed n j = part_at (λ (r : State). r.v) (λ (m : Motion). m.v) (λ r i m. refl) n j

    -- the slack's test tells of the substep before it
    pub slack_tells : (w : Walls) (n : ℕ) → n ≤ length s.p
        → (substep f g a n s).sound && (slack f w (substep f g a n s).value.p n).sound ≡ (slack f w (substep f g a n s).value.p n).sound
    slack_tells w n l =
        implied _ _
        (λ h. substep_sound n
        ∙ all_from (λ (j : ℕ). (axis f g (at a j) (motion_at s j)).sound) n
        (λ j b.
        let y : finite (at (substep f g a n s).value.p j) ≡ true = slack_sees f w (substep f g a n s).value.p w.shape n j b h in
        axis_told (at a j) (motion_at s j) (rw (substep_at n j b l) at y)))

-- how far the plant has moved tells of each number on the way to it
pub stop_tells : (f : Format) (start end : State) (n : ℕ) → Tells (stop_distance f start end n)
unfolding stop_distance
stop_tells f start end n = implied _ _ (λ h. dist_tells f end.p start.p n ∙ fine_add_left f (dist f end.p start.p n).value +0 h)
