-- `conformal::term` meets its contract: the loop keeps the three folds of the features passed.
use mathlib.Core.Path.{◌≡◌, refl, ◌∙◌}
use mathlib.Core.Bool.{false}
use native.Mathlib.Omega.{arith}
use lib.Ieee.{inf, of_bits, div}
use Rattle.checked.specs.Each.{all, some, at}
use Rattle.checked.specs.Least.{lesser}
use Rattle.checked.proofs.Each.{all_more, some_more}
use Rattle.bits.specs.Bits.{bit}
use Rattle.conformal.specs.Rule.{live_term, join_where, least_of}
use Rattle.checked.proofs.Chosen.{first, second}
use Rattle.conformal.proofs.Turns.{join_more}
use Rattle.conformal.proofs.term.Goals.{then-named, else-named}
use Rattle.conformal.proofs.term.Goals as goal

pub loop-j-init : goal.loop-j-init
unfolding all Rattle.checked.specs.Each.some join_where of_bits div
loop-j-init c = record { some-so-far = refl; every-so-far = refl; least-so-far = refl }

pub loop-j-preserved : goal.loop-j-preserved
loop-j-preserved c =
    let l = c.loop-j.invariant in
    let a = c.args in record {
      some-so-far = some_more _ _ _ _ l.some-so-far c.bit-named.ensures;
      every-so-far = all_more _ _ _ _ l.every-so-far (rw (c.bit-named.ensures, c.bit.ensures, c.bit-in-loop-j.ensures));
      least-so-far = join_more lesser (inf false) (bit a.bits) (at a.z.now) _ c.bit-named.result c.loop-j.least _ c.if-named.least l.least-so-far c.bit-named.ensures refl
          (elim c.if-named.branch [ then-named w ↦ w.least-is ∙ w.min-least.ensures ∙ first _ _ _ w.if-named.true | else-named w ↦ w.least-is ∙ second _ _ _ w.if-named.false ]);
    }

pub returns : goal.returns
unfolding live_term least_of
returns c =
    let l = c.loop-j.invariant in
    let e : c.loop-j.j ≡ 12 = omega arith in
    rw (rw e at l.some-so-far, rw e at l.every-so-far, rw e at l.least-so-far)
