-- The tests that the code makes tell of every number on the way: a divisor has its own test, and each other number goes into a later one that absorbs it.
use mathlib.Core.Path.{◌≡◌, refl, ap, ◌∙◌}
use mathlib.Core.Bool.{Bool, true, ◌&&◌, and-true}
use mathlib.Core.List.{List}
use Prim.Native.Nat.{ℕ, zero, suc, ◌≤◌, ◌<◌}
use native.Mathlib.Omega.{arith}
use borrow.Author.Count.{below_more}
use lib.ListN.{length, set}
use lib.Ieee.{Float, Format, add, sub, mul, div}
use Rattle.checked.specs.Constants.{2! }
use Rattle.checked.specs.Finite.{finite}
use Rattle.checked.specs.Each.{at, all, over}
use Rattle.checked.specs.Checked.{Checked, each, sum_from}
use Rattle.fmath.specs.Norm.{square_at, norm, dist}
use Rattle.checked.proofs.Absorbing.{Fine, fine_add_left, fine_add_right, fine_mul_left, fine_mul_right, fine_div_left}
use Rattle.checked.proofs.Each.{◌&&≡◌, and_left, and_right, all_from, over_at}
use Rattle.checked.proofs.Told.{Tells, implied}
use Rattle.fmath.proofs.Lengths.{norm_tells, dist_tells}
use Rattle.envelope.specs.declared.ActionKind.{ActionKind}
use Rattle.envelope.specs.declared.ActionKind.TheVariants.{EePosition, EeDelta, JointPosition, JointVelocity, Other}
use Rattle.envelope.specs.declared.BrakeKind.{BrakeKind}
use Rattle.course.specs.Plant.{State}
use Rattle.stopping.specs.declared.Arm.{Arm}
use Rattle.stopping.specs.Rule.{ramp, ease, d_stop, radius, commanded, command, moved, stop_distance}

module _ (f : Format) where
  -- a quotient tells of its numerator
  over_tells : (x y : Float) → finite x && (finite y && finite (div f x y)) ≡ finite y && finite (div f x y)
  over_tells x y = implied _ _ (λ h. fine_div_left f x y (and_right (finite y) (finite (div f x y)) h))

  pub ramp_tells : (a s : Float) → (ramp f a s).sound ≡ finite (mul f 2! a) && finite (ramp f a s).value
  unfolding ramp
  ramp_tells a s = over_tells (mul f s s) (mul f 2! a)

  pub ease_tells : (a j s : Float) → (ease f a j s).sound ≡ finite (mul f 2! j) && finite (ease f a j s).value
  unfolding ease
  ease_tells a j s = over_tells (mul f s a) (mul f 2! j)

  pub radius_tells : (b : BrakeKind) (a j react : Float) (v : List Float) (n : ℕ)
      → (radius f b a j react v n).sound ≡ (d_stop f b a j (norm f v n).value).sound && finite (radius f b a j react v n).value
  unfolding radius
  radius_tells b a j react v n =
      let s = (norm f v n).value in
      let d = (d_stop f b a j s).value in
      let w = mul f s react in
      let r = add f d w in
      let inner : finite w && finite r ≡ finite r = implied _ _ (fine_add_right f d w) in
      ap (λ (x : Bool). (norm f v n).sound && ((d_stop f b a j s).sound && x)) inner
      ∙ implied _ _ (λ h. norm_tells f v n ∙ fine_mul_left f s react (fine_add_right f d w (and_right (d_stop f b a j s).sound (finite r) h)))

-- a sum tells of the distance in it; the radius has tests of its own
pub stop_tells : (f : Format) (arm : Arm) (react : Float) (start end : State) (n : ℕ)
    → (stop_distance f arm react start end n).sound ≡ (radius f arm.brake arm.a_max arm.j_max react end.v n).sound && finite (stop_distance f arm react start end n).value
unfolding stop_distance
stop_tells f arm react start end n =
    let d = dist f end.p start.p n in
    let r = radius f arm.brake arm.a_max arm.j_max react end.v n in
    implied _ _ (λ h. dist_tells f end.p start.p n ∙ fine_add_left f d.value r.value (and_right r.sound (finite (add f d.value r.value)) h))

pub moved_tells : (f : Format) (dt v p : Float) → Tells (moved f dt v p)
unfolding moved
moved_tells f dt v p = implied _ _ (fine_add_right f p (mul f v dt))

-- ---- the velocity that a row commands goes into its length

module _ (g : ℕ → Checked Float) (l : List Float) where
  each_over : (n : ℕ) → (each g l n).value ≡ over (λ (j : ℕ). (g j).value) l n
  unfolding each over
  each_over zero = refl
  each_over (suc n) = ap (λ (k : List Float). set k n (g n).value) (each_over n)

  each_all : (n : ℕ) → (each g l n).sound ≡ all (λ (j : ℕ). (g j).sound) n
  unfolding each all
  each_all zero = refl
  each_all (suc n) = each_all n &&≡ and-true (g n).sound

module _ (f : Format) where
  sum_at : (z : Float) (g : ℕ → Checked Float) (n : ℕ) → (sum_from f z g n).sound ≡ true → (j : ℕ) → j < n → (g j).sound ≡ true
  unfolding sum_from
  sum_at z g zero h j b = absurd (omega arith)
  sum_at z g (suc n) h j b =
      let s = sum_from f z g n in
      let last = finite (add f s.value (g n).value) in
      let more : (g n).sound && last ≡ true = and_right s.sound ((g n).sound && last) h in
      below_more (λ (i : ℕ). (g i).sound ≡ true) n (sum_at z g n (and_left s.sound ((g n).sound && last) h)) (and_left (g n).sound last more) j (omega arith)

  -- a length that is told has no coordinate that isn't finite
  norm_at : (v : List Float) (n : ℕ) → (norm f v n).sound ≡ true → (j : ℕ) → j < n → Fine (at v j)
  unfolding norm square_at
  norm_at v n h j b = fine_mul_left f (at v j) (at v j) (sum_at _ (square_at f v) n (and_left _ _ h) j b)

  commanded_told : (k : ActionKind) (dt g a p : Float) → Fine (commanded f k dt g a p).value → (commanded f k dt g a p).sound ≡ true
  unfolding commanded
  commanded_told JointVelocity dt g a p h = refl
  commanded_told EeDelta dt g a p h = h
  commanded_told EePosition dt g a p h = fine_mul_right f g (sub f a p) h &&≡ h
  commanded_told JointPosition dt g a p h = fine_mul_right f g (sub f a p) h &&≡ h
  commanded_told Other dt g a p h = fine_mul_right f g (sub f a p) h &&≡ h

  module _ (kind : ActionKind) (dt g : Float) (a : List Float) (s : State) (n : ℕ) (long : n ≤ length s.v) where
    abbrev sent : ℕ → Checked Float
    sent j = commanded f kind dt g (at a j) (at s.p j)

    pub command_told : (b : BrakeKind) (x y react : Float) → (radius f b x y react (command f kind dt g a s n).value n).sound ≡ true → (command f kind dt g a s n).sound ≡ true
    unfolding radius command
    command_told b x y react h =
        each_all sent s.v n
        ∙ all_from (λ (j : ℕ). (sent j).sound) n
        (λ j c.
        let e : at (each sent s.v n).value j ≡ (sent j).value = ap (λ (l : List Float). at l j) (each_over sent s.v n) ∙ over_at (λ (i : ℕ). (sent i).value) s.v n j c (omega arith) in
        commanded_told kind dt g (at a j) (at s.p j) (rw e at (norm_at (each sent s.v n).value n (and_left _ _ h) j c)))
