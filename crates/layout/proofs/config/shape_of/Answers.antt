-- `layout::config::shape_of` meets its contract: by cases on the code.
use mathlib.Core.Path.{◌≡◌, refl}
use native.Mathlib.Omega.{arith}
use Prim.Native.Nat.{ℕ, zero, suc}
use lib.Ieee.{Float}
use Rattle.workspace.specs.declared.Shape.TheVariants as S
use Rattle.layout.specs.Config.{shape_of}
use Rattle.layout.proofs.config.shape_of.Goals as goal

other : (k : ℕ) (x y radius : Float) → (k ≡ 1 → ⊥) → S.Box ≡ shape_of k x y radius
unfolding shape_of
other zero x y radius a = refl
other (suc zero) x y radius a = absurd (a refl)
other (suc (suc k)) x y radius a = refl

pub returns-in-1 : goal.returns-in-1
unfolding shape_of
returns-in-1 c = rw c.in-1.is

pub returns-in_default : goal.returns-in_default
returns-in_default c = let s = c.args in other s.k s.x s.y s.radius (λ e. omega arith)
