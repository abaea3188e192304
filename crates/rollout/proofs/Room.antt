-- What is known of a course that has room.
use mathlib.Core.Path.{◌≡◌}
use mathlib.Core.Bool.{true}
use Prim.Native.Nat.{ℕ, ◌≤◌}
use borrow.Author.Tests.{leb-true}
use Rattle.checked.proofs.Each.{every_at}
use Rattle.envelope.specs.Steps.{substeps_in}
use Rattle.course.specs.declared.Course.{Course}
use Rattle.course.specs.Of.{left_of, shaped}
use Rattle.rollout.specs.Of.{roomy}

pub room_of : (c : Course) (len room : ℕ) → roomy c len room ≡ true → (shaped c len ≡ true) × (substeps_in (left_of c) c.brake c.per ≤ room) × (1 ≤ c.live)
unfolding roomy
room_of c len room h = (every_at _ 0 h, leb-true _ _ (every_at _ 2 h), leb-true _ _ (every_at _ 3 h))
