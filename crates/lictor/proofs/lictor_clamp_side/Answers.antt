-- `lictor_clamp_side` meets its contract: it hands on both parts of the entry's answer.
use mathlib.Core.Path.{ap, ◌∙◌}
use mir.Syntax.{w64}
use mir.Val.{to_z, of_z}
use Rattle.fmath.specs.declared.Sided.{Sided}
use Rattle.fmath.proofs.Clamping.{side_read_back}
use Rattle.lictor.proofs.lictor_clamp_side.Goals as goal

pub returns : goal.returns
returns c =
    let s = c.args in
    let e = c.clamp-c.ensures in
    (ap (λ (r : Sided). r.value) e, ap (λ (r : Sided). to_z w64 (of_z w64 r.side)) e ∙ side_read_back s.x s.lo s.hi)
