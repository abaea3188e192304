-- One of two, by a test: what the kit's `if b then x else y` is, by which every rule chooses.
use Rattle.std.specs.Prelude.{◌≡◌, Bool, true, false, if◌then◌else◌}

pub record Choice {A : Type 0} (x y : A) : Type 0 where
  pub where_true : (if true then x else y) ≡ x
  pub where_false : (if false then x else y) ≡ y
