-- `conformal::standards` meets its contract: the loop keeps the table and the soundness of the features passed.
use mathlib.Core.Path.{◌≡◌, refl, ap, ◌∙◌}
use native.Mathlib.Omega.{arith}
use lib.ListN.{length-set}
use lib.Ieee.{binary64}
use Rattle.checked.specs.Each.{all, table}
use Rattle.checked.proofs.Each.{all_more, table_more, table_all}
use Rattle.checked.specs.declared.Reckoned.{Reckoned}
use Rattle.checked.specs.Of.{reckoned_from}
use Rattle.conformal.specs.Of.{tables}
use Rattle.conformal.specs.Rule.{live, standard_at, standards}
use Rattle.conformal.proofs.standards.Goals as goal

pub loop-j-init : goal.loop-j-init
unfolding all table
loop-j-init c =
    record {
      wide = refl;
      so_far = refl;
      told = refl;
    }

pub loop-j-preserved : goal.loop-j-preserved
loop-j-preserved c =
    let l = c.loop-j in
    let a = c.args in
    let e : c.standard-one.result ≡ reckoned_from (standard_at binary64 (tables a.center.now a.scale.now) a.bin (live a.mask a.valid) a.x.now l.j)
    = c.standard-one.ensures ∙ rw (c.bit.ensures, c.bit-in-loop-j.ensures, c.last_bin-row.ensures) in record {
      wide = simp length-set l.invariant.wide;
      so_far = table_more _ _ _ _ (omega arith) l.invariant.so_far (ap (λ (r : Reckoned). r.value) e);
      told = all_more _ _ _ _ l.invariant.told (ap (λ (r : Reckoned). r.sound) e);
    }

pub returns : goal.returns
unfolding standards
returns c =
    let l = c.loop-j in
    let e : l.j ≡ 12 = omega arith in
    rw (table_all _ 12 l.j l.z e l.invariant.wide l.invariant.so_far, rw e at l.invariant.told)
