-- What is known of a course that has room.
use mathlib.Core.Path.{◌≡◌}
use mathlib.Core.Bool.{true}
use Prim.Native.Nat.{ℕ, ◌<◌}
use borrow.Author.Tests.{ltb-true}
use Rattle.checked.proofs.Each.{every_at}
use Rattle.course.specs.declared.Course.{Course}
use Rattle.course.specs.Of.{left_of, shaped}
use Rattle.stopping.specs.Of.{roomy}

pub room_of : (c : Course) (len room : ℕ) → roomy c len room ≡ true → (shaped c len ≡ true) × ((left_of c).0 < room)
unfolding roomy
room_of c len room h = (every_at _ 0 h, ltb-true _ _ (every_at _ 1 h))
