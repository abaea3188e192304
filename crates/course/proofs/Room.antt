-- What is known of a course that has its shape.
use mathlib.Core.Path.{◌≡◌}
use mathlib.Core.Bool.{true}
use Prim.Native.Nat.{ℕ, ◌*◌, ◌≤◌}
use borrow.Author.Tests.{leb-true, eqb-true, le-leb, eq-eqb}
use Rattle.checked.specs.Each.{every, every_from}
use Rattle.checked.proofs.Each.{every_at}
use Rattle.course.specs.declared.Course.{Course}
use Rattle.course.specs.Of.{shaped}

pub record Shape (c : Course) (len : ℕ) : Type 0 where
  pub axes : c.live ≤ 8
  pub within : c.live ≤ c.dim
  pub rowed : 1 ≤ c.horizon
  pub there : len ≡ c.horizon * c.dim

pub shape_of : (c : Course) (len : ℕ) → shaped c len ≡ true → Shape c len
unfolding shaped
shape_of c len h = record {
  axes = leb-true _ _ (every_at _ 0 h);
  within = leb-true _ _ (every_at _ 1 h);
  rowed = leb-true _ _ (every_at _ 2 h);
  there = eqb-true _ _ (every_at _ 3 h);
}

pub is_shaped : (c : Course) (len : ℕ) → Shape c len → shaped c len ≡ true
unfolding shaped every every_from
is_shaped c len s = rw (le-leb _ _ s.axes, le-leb _ _ s.within, le-leb _ _ s.rowed, eq-eqb _ _ s.there)
