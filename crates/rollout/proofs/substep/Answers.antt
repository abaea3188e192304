-- `rollout::substep` meets its contract: the loop takes one axis a turn.
use mathlib.Core.Path.{refl, ap, ◌∙◌}
use native.Mathlib.Omega.{arith}
use borrow.Author.Rules.{rules}
use lib.ListN.{length-set}
use lib.Ieee.{binary64}
use Rattle.rollout.specs.Plant.{Motion, substep}
use Rattle.rollout.specs.declared.Moved.{Moved}
use Rattle.rollout.specs.Of.{gains_of}
use Rattle.course.specs.Of.{state_of}
use Rattle.rollout.proofs.Told.{substep_more}
use Rattle.rollout.proofs.substep.Goals as goal

abbrev motion_of : Moved → Motion
motion_of m = record { p = m.p; v = m.v }

pub loop-j-init : goal.loop-j-init
unfolding substep
loop-j-init c =
    record {
      along = omega arith;
      places = search rules;
      rates = search rules;
      so_far = refl;
    }

pub loop-j-preserved : goal.loop-j-preserved
loop-j-preserved c =
    let l = c.loop-j in
    let s = c.args in
    let m = c.axis-m.result in record {
      along = omega arith;
      places = length-set l.r.p l.j m.p ∙ l.invariant.places;
      rates = length-set l.r.v l.j m.v ∙ l.invariant.rates;
      so_far = substep_more binary64 (gains_of s.g) s.a.now (state_of s.s) l.j (state_of l.r) (motion_of m) l.invariant.so_far (ap motion_of c.axis-m.ensures);
    }
