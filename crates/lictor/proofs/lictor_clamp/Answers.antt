-- `lictor_clamp` meets its contract: it hands on the value of the entry's answer.
use mathlib.Core.Path.{ap}
use Rattle.fmath.specs.declared.Sided.{Sided}
use Rattle.lictor.proofs.lictor_clamp.Goals as goal

pub returns : goal.returns
returns c = ap (λ (s : Sided). s.value) c.clamp.ensures
