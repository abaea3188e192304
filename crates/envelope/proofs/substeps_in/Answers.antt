-- `envelope::substeps_in` meets its contract: of u16 counts the sum and the product fit 64 bits.
use native.Mathlib.Nat.{mul-le-mul}
use native.Mathlib.Omega.{arith}
use mir.Facts.{Fits-le, Fits-lit}
use Rattle.envelope.proofs.substeps_in.Goals as goal

pub overflow_mul-result : goal.overflow_mul-result
overflow_mul-result c = Fits-le (mul-le-mul {n₂ = 131070} {m₂ = 65535} (omega arith) (omega arith)) (Fits-lit tt)
