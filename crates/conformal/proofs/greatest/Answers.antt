-- `conformal::greatest` meets its contract: the loop keeps the greatest of the terms passed.
use Prim.Native.Nat.{ℕ}
use mathlib.Core.Path.{◌≡◌, refl, ap, ◌∙◌}
use mathlib.Core.Bool.{true, ◌&&◌}
use native.Mathlib.Omega.{arith}
use lib.Dec.{ltb}
use lib.Ieee.{inf, of_bits, div, neg}
use Rattle.checked.specs.Least.{greater}
use Rattle.conformal.specs.Rule.{live, counts, least_of, term_at, join_where, aggregate}
use Rattle.conformal.specs.declared.Joined.{Joined}
use Rattle.checked.proofs.Chosen.{first, second}
use Rattle.conformal.proofs.Turns.{join_more}
use Rattle.conformal.proofs.greatest.Goals.{then-i-n, else-i-n}
use Rattle.conformal.proofs.greatest.Goals as goal

pub loop-i-init : goal.loop-i-init
unfolding join_where of_bits div neg
loop-i-init c = refl

pub loop-i-preserved : goal.loop-i-preserved
loop-i-preserved c = let l = c.loop-i in
    let a = c.args in
    let t = c.term-t in
    let Live-now = live a.mask a.valid in
    join_more greater (inf true) (counts a.gate Live-now) (λ (k : ℕ). least_of a.z.now (term_at a.gate k)) l.i
    (ltb l.i a.gate.n_terms && t.result.live) l.s t.result.least c.if-i-n.s
    l.invariant (rw t.ensures) (ap (λ (j : Joined). j.least) t.ensures)
    (elim c.if-i-n.branch [ then-i-n w ↦ w.s-is ∙ w.max-s.ensures ∙ first _ _ _ w.if-i-n.true | else-i-n w ↦ w.s-is ∙ second _ _ _ w.if-i-n.false ])

pub returns : goal.returns
unfolding aggregate
returns c = let e : c.loop-i.i ≡ 8 = omega arith in rw e at c.loop-i.invariant
