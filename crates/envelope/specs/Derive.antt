-- What is derived from a configuration (R4), over the format, in the source's operation order.
use Rattle.std.specs.Prelude.{ℕ, min, Bool, ◌&&◌, List, ltb, Float, if◌then◌else◌}
use Rattle.std.specs.Float.{Format}
use Rattle.std.specs.Float.Ieee.{add, sub, mul, div}
use Rattle.checked.specs.Constants.{1! }
use Rattle.checked.specs.Each.{at, table}
use Rattle.checked.specs.Finite.{+0}
use Rattle.checked.specs.Least.{least}
use Rattle.workspace.specs.declared.Shape.{Shape}
use Rattle.workspace.specs.Shape.{boxed}
use Rattle.envelope.specs.declared.Limits.{Limits}
use Rattle.envelope.specs.declared.Norm.{Norm}
use Rattle.envelope.specs.declared.Box.{Box}
use Rattle.envelope.specs.declared.Derived.{Derived}
use Rattle.envelope.specs.declared.FuseConfig.{FuseConfig}

-- x where a test holds, else 0.0
abbrev pub kept : Bool → Float → Float
kept t x = if t then x else +0

-- ---- the control period

-- 1 / dt, and its second and third power
unfoldable pub inv_dt_of : Format → Float → Float
inv_dt_of f dt = div f 1! dt

unfoldable pub inv_dt2_of : Format → Float → Float
inv_dt2_of f dt = mul f (inv_dt_of f dt) (inv_dt_of f dt)

unfoldable pub inv_dt3_of : Format → Float → Float
inv_dt3_of f dt = mul f (inv_dt2_of f dt) (inv_dt_of f dt)

-- the longest step: v_max x dt
unfoldable pub step_max_of : Format → Float → Float → Float
step_max_of f v dt = mul f v dt

-- ---- the workspace: the box moved inward by the margin on those of the first n axes that have one, 0..0 on the others

unfoldable pub low_walls : Format → Shape → List Float → Float → ℕ → List Float
low_walls f s lo margin n = table (λ (i : ℕ). kept (boxed s i && ltb i n) (add f (at lo i) margin)) 8

unfoldable pub high_walls : Format → Shape → List Float → Float → ℕ → List Float
high_walls f s hi margin n = table (λ (i : ℕ). kept (boxed s i && ltb i n) (sub f (at hi i) margin)) 8

-- ---- the norm

-- 1 / scale on the first n coordinates, 0.0 past them
unfoldable pub inverses : Format → List Float → ℕ → List Float
inverses f scale n = table (λ (i : ℕ). kept (ltb i n) (div f 1! (at scale i))) 8

-- the least of the first n scales
unfoldable pub isotropic : List Float → ℕ → Float
isotropic scale n = least (at scale) (min n 8)

-- ---- all of it

unfoldable pub derived_from : Format → Limits → Norm → Shape → Box → ℕ → ℕ → Derived
derived_from f l norm s walls dim pos-dim = record {
  inv_dt = inv_dt_of f l.dt;
  inv_dt2 = inv_dt2_of f l.dt;
  inv_dt3 = inv_dt3_of f l.dt;
  step_max = step_max_of f l.v_max l.dt;
  box_lo = low_walls f s walls.lo l.margin pos-dim;
  box_hi = high_walls f s walls.hi l.margin pos-dim;
  inv_norm_scale = inverses f norm.scale dim;
  norm_scale_iso = isotropic norm.scale dim;
}

abbrev pub derived : Format → FuseConfig → Derived
derived f c = derived_from f c.limits c.norm c.shape c.walls c.dim c.pos_dim
