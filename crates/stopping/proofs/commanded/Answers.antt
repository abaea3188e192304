-- `stopping::commanded` meets its contract, kind by kind.
use Rattle.std.proofs.Common.{arith}
use mathlib.Core.Path.{sym, ap}
use lib.Ieee.{binary64}
use Rattle.envelope.specs.declared.ActionKind.{ActionKind}
use Rattle.stopping.specs.Rule.{commanded}
use Rattle.stopping.proofs.commanded.Goals as goal

pub returns-in-JointVelocity : goal.returns-in-JointVelocity
unfolding commanded
returns-in-JointVelocity c = let s = c.args in sym (ap (λ (k : ActionKind). (commanded binary64 k s.dt s.g s.a s.p).value) c.in-JointVelocity.is)

pub returns-in-EeDelta : goal.returns-in-EeDelta
unfolding commanded
returns-in-EeDelta c = let s = c.args in sym (ap (λ (k : ActionKind). (commanded binary64 k s.dt s.g s.a s.p).value) c.in-EeDelta.is)

pub returns-in-EePosition : goal.returns-in-EePosition
unfolding commanded
returns-in-EePosition c = grind arith
