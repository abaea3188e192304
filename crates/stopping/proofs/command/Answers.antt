-- `stopping::command` meets its contract, axis by axis.
use Prim.Native.Nat.{ℕ}
use mathlib.Core.Path.{◌≡◌, refl, ap, ◌∙◌}
use native.Mathlib.Omega.{arith}
use lib.Ieee.{binary64}
use Rattle.checked.specs.Each.{at}
use Rattle.checked.specs.Checked.{each}
use Rattle.checked.proofs.Told.{each_value}
use Rattle.stopping.specs.Rule.{commanded, command}
use Rattle.stopping.proofs.command.Goals as goal

pub loop-j-init : goal.loop-j-init
unfolding each
loop-j-init c = (omega arith, refl, refl)

pub loop-j-preserved : goal.loop-j-preserved
loop-j-preserved c = let l = c.loop-j in let s = c.args in
    (omega arith, each_value (λ (i : ℕ). commanded binary64 s.arm.kind s.arm.dt s.g (at s.a.now i) (at s.s.p i)) s.s.v l.j l.r _ l.invariant.1 c.commanded.ensures, l.invariant.2)

pub returns : goal.returns
unfolding command
returns c = let l = c.loop-j in let s = c.args in
    let e : l.j ≡ s.n = omega arith in
    l.invariant.1 ∙ ap (λ (k : ℕ). (each (λ (i : ℕ). commanded binary64 s.arm.kind s.arm.dt s.g (at s.a.now i) (at s.s.p i)) s.s.v k).value) e
