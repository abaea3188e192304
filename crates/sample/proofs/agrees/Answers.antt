-- `sample::agrees` meets its contract: the loop keeps the answer so far, over lists of one length.
use mathlib.Core.Path.{◌≡◌, refl}
use Prim.Native.Nat.{ℕ}
use native.Mathlib.Omega.{arith}
use lib.Ieee.{eq}
use lib.ListN.{length}
use borrow.Author.Rules.{rules}
use borrow.Author.Tests.{eq-eqb, ne_eqb}
use Rattle.checked.proofs.Each.{all_more}
use Rattle.checked.specs.Each.{all, at}
use Rattle.sample.specs.Agrees.{agrees}
use Rattle.sample.proofs.agrees.Goals as goal

pub returns-then-kept-got : goal.returns-then-kept-got
unfolding agrees
returns-then-kept-got c = rw (ne_eqb _ _ c.if-kept-got.true)

pub loop-j-init : goal.loop-j-init
unfolding all
loop-j-init c = (search rules, refl)

pub loop-j-preserved : goal.loop-j-preserved
loop-j-preserved c =
    let a = c.args in
    (omega arith, all_more (λ (i : ℕ). eq (at a.kept.now i) (at a.got.now i)) _ _ _ c.loop-j.invariant.1 refl)

pub returns : goal.returns
unfolding agrees
returns c =
    let e : c.loop-j.j ≡ length c.args.got.now = omega arith in
    rw (eq-eqb _ _ c.if-kept-got.false) (rw e at c.loop-j.invariant.1)
