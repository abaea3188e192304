-- `fmath::dist` meets its contract, by the tests that led to each answer; one test of the last number is a test of all.
use Prim.Native.Nat.{ℕ}
use mathlib.Core.List.{List}
use mathlib.Core.Bool.{Bool, not, ◌||◌}
use mathlib.Core.Path.{ap}
use lib.Dec.{ltb}
use lib.ListN.{length}
use lib.Ieee.{Float, binary64}
use Rattle.fmath.specs.Norm.{dist}
use Rattle.fmath.specs.Answer.{some_not_finite}
use Rattle.fmath.proofs.Lengths.{dist_tells}
use Rattle.fmath.proofs.Judged.{is_short, is_not_finite, is_computed, is_value, unfit_both}
use Rattle.fmath.proofs.dist.Goals as goal

abbrev less : List Float → List Float → ℕ → Bool
less a b n = (ltb (length a) n || ltb (length b) n)

abbrev unfit : List Float → List Float → Bool
unfit a b = (some_not_finite a || some_not_finite b)

pub returns-then-a-n : goal.returns-then-a-n
returns-then-a-n c = is_short (less c.args.a.now c.args.b.now c.args.n) (unfit c.args.a.now c.args.b.now) (dist binary64 c.args.a.now c.args.b.now c.args.n) _ c.of.ensures c.if-a-n.true

pub returns-then-not-fine : goal.returns-then-not-fine
returns-then-not-fine c = is_not_finite (less c.args.a.now c.args.b.now c.args.n) (unfit c.args.a.now c.args.b.now) (dist binary64 c.args.a.now c.args.b.now c.args.n) _ c.of-then-not-fine.ensures c.if-a-n.false (unfit_both _ _ _ _ _ c.all_finite.ensures c.all_finite-2.ensures (ap not c.if-not-fine.true))

pub returns-then-finite : goal.returns-then-finite
returns-then-finite c = is_value (less c.args.a.now c.args.b.now c.args.n) (unfit c.args.a.now c.args.b.now) (dist binary64 c.args.a.now c.args.b.now c.args.n) _ _ c.if-a-n.false (unfit_both _ _ _ _ _ c.all_finite.ensures c.all_finite-2.ensures (ap not c.if-not-fine.false)) (dist_tells binary64 c.args.a.now c.args.b.now c.args.n) c.distance-far.ensures c.finite.ensures c.if-finite.true

pub returns : goal.returns
returns c = is_computed (less c.args.a.now c.args.b.now c.args.n) (unfit c.args.a.now c.args.b.now) (dist binary64 c.args.a.now c.args.b.now c.args.n) _ _ _ c.of-2.ensures c.if-a-n.false (unfit_both _ _ _ _ _ c.all_finite.ensures c.all_finite-2.ensures (ap not c.if-not-fine.false)) (dist_tells binary64 c.args.a.now c.args.b.now c.args.n) c.distance-far.ensures c.finite.ensures c.if-finite.false
