-- `fmath::norm` meets its contract, by the tests that led to each answer; one test of the last number is a test of all.
use mathlib.Core.Path.{sym, ap, ◌∙◌}
use Prim.Native.Nat.{ℕ}
use mathlib.Core.List.{List}
use mathlib.Core.Bool.{Bool, not}
use borrow.Author.Tests.{lt-ltb, le-ltb}
use lib.Dec.{ltb}
use lib.ListN.{length}
use lib.Ieee.{Float, binary64}
use Rattle.fmath.specs.Norm.{norm}
use Rattle.fmath.specs.Answer.{some_not_finite}
use Rattle.fmath.proofs.Lengths.{norm_tells}
use Rattle.fmath.proofs.Judged.{is_short, is_not_finite, is_computed, is_value}
use Rattle.fmath.proofs.norm.Goals as goal

abbrev less : List Float → ℕ → Bool
less v n = ltb (length v) n

abbrev unfit : List Float → Bool
unfit v = some_not_finite v

pub returns-then-v-n : goal.returns-then-v-n
returns-then-v-n c = is_short (less c.args.v.now c.args.n) (unfit c.args.v.now) (norm binary64 c.args.v.now c.args.n) _ c.of.ensures (lt-ltb _ _ c.if-v-n.true)

pub returns-then-not-all_finite : goal.returns-then-not-all_finite
returns-then-not-all_finite c = is_not_finite (less c.args.v.now c.args.n) (unfit c.args.v.now) (norm binary64 c.args.v.now c.args.n) _ c.of-then-not-all_finite.ensures (le-ltb _ _ c.if-v-n.false) (ap not (sym c.all_finite.ensures ∙ c.if-not-all_finite.true))

pub returns-then-finite : goal.returns-then-finite
returns-then-finite c = is_value (less c.args.v.now c.args.n) (unfit c.args.v.now) (norm binary64 c.args.v.now c.args.n) _ _ (le-ltb _ _ c.if-v-n.false) (ap not (sym c.all_finite.ensures ∙ c.if-not-all_finite.false)) (norm_tells binary64 c.args.v.now c.args.n) c.magnitude-length.ensures c.finite.ensures c.if-finite.true

pub returns : goal.returns
returns c = is_computed (less c.args.v.now c.args.n) (unfit c.args.v.now) (norm binary64 c.args.v.now c.args.n) _ _ _ c.of-2.ensures (le-ltb _ _ c.if-v-n.false) (ap not (sym c.all_finite.ensures ∙ c.if-not-all_finite.false)) (norm_tells binary64 c.args.v.now c.args.n) c.magnitude-length.ensures c.finite.ensures c.if-finite.false
