-- `net` and `path` tell: they are finite exactly where each number on the way to them is.
use Prim.Native.Nat.{ℕ, ◌-◌, min}
use mathlib.Core.Path.{◌≡◌, refl}
use mathlib.Core.Bool.{Bool, true, false, ◌||◌}
use mathlib.Core.List.{List}
use lib.Dec.{eqb, ltb}
use lib.Ieee.{Float, Format}
use Rattle.std.specs.Prelude.{if◌then◌else◌}
use Rattle.checked.specs.Checked.{Checked, pure}
use Rattle.checked.specs.Finite.{finite, +0}
use Rattle.checked.proofs.Told.{Tells, sum_tells}
use Rattle.fmath.proofs.Lengths.{dist_tells}
use Rattle.window.specs.Rule.{sample_back, net, step, path}

zero_or_tells : (b : Bool) (x : Checked Float) → Tells x → Tells (if b then pure +0 else x)
unfolding finite
zero_or_tells true x t = refl
zero_or_tells false x t = t

module _ (f : Format) (l : List Float) (head len d w : ℕ) where
  pub net_tells : Tells (net f l head len d w)
  unfolding net
  net_tells = zero_or_tells (eqb w 0 || ltb 32 w || ltb len w) _ (dist_tells f (sample_back l head 0) (sample_back l head (w - 1)) (min d 8))

  step_tells : (j : ℕ) → Tells (step f l head d (w - 1) j)
  unfolding step
  step_tells j = dist_tells f _ _ _

  zero_fine : finite +0 ≡ true
  unfolding finite
  zero_fine = refl

  pub path_tells : Tells (path f l head len d w)
  unfolding path
  path_tells = zero_or_tells (ltb w 2 || ltb 32 w || ltb len w) _ (sum_tells f +0 (step f l head d (w - 1)) zero_fine step_tells (w - 1))
