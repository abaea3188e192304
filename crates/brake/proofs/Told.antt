-- The tests that the code makes tell of every number on the way: the divisor has its own, and each other number goes into one that absorbs it.
use Prim.Native.Nat.{ℕ, min}
use mathlib.Core.Path.{◌≡◌, refl, ap, ◌∙◌}
use mathlib.Core.Bool.{Bool, true, false, ◌&&◌, and-true}
use mathlib.Core.List.{List}
use lib.Dec.{ltb}
use lib.ListN.{length}
use lib.Ieee.{Float, Format, add, sub, mul, div}
use Rattle.std.specs.Prelude.{if◌then◌else◌}
use Rattle.checked.specs.Constants.{1!, eps}
use Rattle.checked.specs.Each.{at}
use Rattle.checked.specs.Finite.{finite, +0}
use Rattle.checked.specs.Checked.{times, pure}
use Rattle.fmath.specs.Norm.{norm}
use Rattle.checked.proofs.Absorbing.{fine_add_left, fine_sub_right, fine_div_left}
use Rattle.checked.proofs.Each.{and_left, and_right}
use Rattle.checked.proofs.Told.{Tells, implied}
use Rattle.fmath.proofs.Lengths.{norm_tells}
use Rattle.brake.specs.Rule.{ramp, scaled_at}

module _ (f : Format) (a dt : Float) (v : List Float) (n : ℕ) where
  abbrev pub most : Float
  most = add f (norm f v (min n (length v))).value eps

  abbrev pub left : Float
  left = sub f 1! (div f (mul f a dt) most)

  pub ramp_tells : (ramp f a dt v n).sound ≡ finite most && finite left
  unfolding ramp
  ramp_tells =
      let s = norm f v (min n (length v)) in
      let loss = mul f a dt in
      let part = div f loss most in
      ap (λ (x : Bool). s.sound && (finite loss && (finite most && (finite part && x)))) (and-true (finite left))
      ∙ ap (λ (x : Bool). s.sound && (finite loss && (finite most && x))) (implied (finite part) (finite left) (fine_sub_right f 1! part))
      ∙ ap (λ (x : Bool). s.sound && x) (implied (finite loss) (finite most && finite left) (λ h. fine_div_left f loss most (fine_sub_right f 1! part (and_right (finite most) (finite left) h))))
      ∙ implied s.sound (finite most && finite left) (λ h. norm_tells f v (min n (length v)) ∙ fine_add_left f s.value eps (and_left (finite most) (finite left) h))

pub scaled_tells : (f : Format) (k : Float) (v : List Float) (j : ℕ) → Tells (scaled_at f k v j)
unfolding scaled_at finite
scaled_tells f k v j = go (ltb j (length v))
  where
    go : (b : Bool) → Tells (if b then times f (at v j) k else pure +0)
    go true = refl
    go false = refl
