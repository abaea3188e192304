-- `rollout::abreast` meets its contract: the loop comes along one entry a turn, with the first n axes as n axes alone would move (`Wide`).
use Prim.Native.Nat.{ℕ, ◌+◌, ◌-◌, ◌≤◌, ◌<◌, min}
use mathlib.Core.Path.{◌≡◌, refl, sym, ap, ◌∙◌, subst}
use mathlib.Core.Bool.{true}
use mathlib.Core.List.{List}
use native.Mathlib.Omega.{arith}
use borrow.Author.Rules.{rules}
use borrow.Author.Tests.{not-true, not-false}
use lib.ListN.{length, length-set}
use lib.Ieee.{Float, binary64}
use Rattle.checked.specs.Each.{at}
use Rattle.checked.specs.Row.{padded}
use Rattle.checked.proofs.Copy.{all_padded, padded_at}
use Rattle.course.specs.declared.Plant.{Plant}
use Rattle.course.specs.declared.Run.{Run}
use Rattle.course.specs.Of.{CameAlong}
use Rattle.rollout.specs.Of.{gains_of, leg_of, AlongLeg}
use Rattle.rollout.proofs.Along.{legged_next}
use Rattle.course.proofs.Along.{along_zero, along_sum, along_at, along_rest}
use Rattle.rollout.proofs.Wide.{joined_itself, as_long, running, wide_fails, wide_advances, going}
use Rattle.rollout.proofs.abreast.Invariants.{first}
use Rattle.rollout.proofs.abreast.Goals as goal

-- the first n numbers of the setpoint are taken in
taken_in : (n : ℕ) (a : List Float) {r : List Float} → n ≤ 8 → n ≤ length a → r ≡ padded a (min n (min (length a) 8)) → (j : ℕ) → j < n → at r j ≡ at a j
taken_in n a hn ha e j hj = ap (λ (l : List Float). at l j) (all_padded a hn ha e) ∙ padded_at a n j hn hj

pub returns-then-not-run : goal.returns-then-not-run
returns-then-not-run c = (omega arith, λ t stand l k go h. along_rest t stand l k _ _ (not-true _ c.if-not-run.true) h c.args.count)

pub loop-substep-init : goal.loop-substep-init
loop-substep-init c =
    let s = c.args in record {
      turns = omega arith;
      same = refl;
      written = omega arith;
      places = search rules;
      rates = search rules;
      comes = λ t stand l k go h.
          along_zero t stand l k _ _
          (subst (λ (q : Plant). CameAlong t stand l k (first q s.run.margin s.run.done) s.slack.now) (sym (joined_itself s.run.plant s.n)) h);
    }

pub returns-then-not-room : goal.returns-then-not-room
returns-then-not-room c =
    let s = c in
    let i = c.loop-substep in
    let sound : s.args.run.sound ≡ true = not-false _ c.if-not-run.false in
    let turns = c.loop-substep-test.true in
    rw c.ended.ensures (
      omega (arith, i.invariant.written, turns),
      λ t stand l k legged r.
          let h = subst (λ (q : Run). CameAlong t stand l k q s.args.slack.now) (going s.args.run sound) r in
          let go : AlongLeg binary64 (leg_of binary64 s.args.g s.args.w s.args.n s.args.a.now) t stand k s.args.count (first s.args.run.plant s.args.run.margin s.args.run.done) = λ _. legged sound in
          along_at t stand l (k + s.args.count) _ _ (k + i._substep + 1 + (s.args.count - i._substep - 1)) (omega (arith, turns))
          (along_rest t stand l (k + i._substep + 1) _ _ refl
          (wide_fails binary64 t stand l (k + i._substep) i.moved s.args.run.plant s.args.n i.margin i.at i.slack s.args.g s.args.w s.args.a.now c.padded-aim.result
          (i.invariant.comes t stand l k go h)
          (legged_next binary64 _ t stand l k s.args.count i._substep (first s.args.run.plant s.args.run.margin s.args.run.done) (running i.moved s.args.run.plant s.args.n i.margin i.at) s.args.slack.now i.slack h go (i.invariant.comes t stand l k go h) (omega arith))
          s.requires.0 s.requires.3 i.invariant.places i.invariant.rates (search rules) (search rules) (taken_in s.args.n s.args.a.now s.requires.0 s.requires.1 c.padded-aim.ensures) c.substep-next.result c.substep-next.ensures c.slack_abreast-room.result c.slack_abreast-room.ensures (not-true _ c.if-not-room.true))
          (s.args.count - i._substep - 1)),
    )

pub loop-substep-preserved : goal.loop-substep-preserved
loop-substep-preserved c =
    let s = c in
    let kept = as_long binary64 (gains_of s.args.g) c.padded-aim.result 8 c.loop-substep.moved c.substep-next.result c.substep-next.ensures in
    let i = c.loop-substep in record {
      turns = omega arith;
      same = length-set i.slack i.at c.slack_abreast-room.result.value ∙ i.invariant.same;
      written = omega (arith, i.invariant.written);
      places = kept.0 ∙ i.invariant.places;
      rates = kept.1 ∙ i.invariant.rates;
      comes = λ t stand l k go h.
          along_sum t stand l k _ _ i._substep 1
          (wide_advances binary64 t stand l (k + i._substep) i.moved s.args.run.plant s.args.n i.margin i.at i.slack s.args.g s.args.w s.args.a.now c.padded-aim.result
          (i.invariant.comes t stand l k go h)
          (legged_next binary64 _ t stand l k s.args.count i._substep (first s.args.run.plant s.args.run.margin s.args.run.done) (running i.moved s.args.run.plant s.args.n i.margin i.at) s.args.slack.now i.slack h go (i.invariant.comes t stand l k go h) (omega arith))
          s.requires.0 s.requires.3 i.invariant.places i.invariant.rates (search rules) (search rules) (taken_in s.args.n s.args.a.now s.requires.0 s.requires.1 c.padded-aim.ensures) c.substep-next.result c.substep-next.ensures c.slack_abreast-room.result c.slack_abreast-room.ensures (not-false _ c.if-not-room.false) _ c.min-margin.ensures);
    }

pub returns : goal.returns
returns c =
    let s = c in
    let i = c.loop-substep in
    let sound : s.args.run.sound ≡ true = not-false _ c.if-not-run.false in
    let e : i._substep ≡ s.args.count = omega arith in
    rw c.ended-2.ensures (
      omega (arith, i.invariant.written, e),
      λ t stand l k legged r.
          along_at t stand l (k + s.args.count) _ _ (k + i._substep) (ap (λ (m : ℕ). k + m) e)
          (i.invariant.comes t stand l k (λ _. legged sound) (subst (λ (q : Run). CameAlong t stand l k q s.args.slack.now) (going s.args.run sound) r)),
    )
