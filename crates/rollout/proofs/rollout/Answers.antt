-- `rollout::rollout` meets its contract: the committed rows, then the setpoint that they leave, come along all N entries (`Along`), or the run stops before a setpoint that is
-- not sound (`Setpoint`).
use Prim.Native.Nat.{ℕ, ◌+◌, ◌*◌}
use mathlib.Core.Path.{◌≡◌, refl, sym, ap, ◌∙◌}
use native.Mathlib.Nat.{add-mul, zero-add}
use native.Mathlib.Omega.{arith}
use borrow.Author.Rules.{rules}
use borrow.Author.Tests.{not-true, not-false}
use lib.ListN.{length}
use lib.Ieee.{binary64, of_bits, div}
use Rattle.checked.specs.declared.Row.{Row}
use Rattle.rollout.specs.Rule.{row_substeps, total, after, forecast}
use Rattle.rollout.specs.Of.{task_of, Along, leg_to, AlongLeg}
use Rattle.course.specs.declared.Course.{Course}
use Rattle.course.specs.Of.{left_of}
use Rattle.course.proofs.Along.{along_start, along_at}
use Rattle.course.proofs.Room.{shape_of}
use Rattle.rollout.proofs.Room.{room_of}
use Rattle.rollout.proofs.Along.{aimed_step}
use Rattle.rollout.proofs.Rows.{aims_setpoint}
use Rattle.rollout.proofs.Setpoint.{made_is, unmade, all_come}
use Rattle.rollout.proofs.rollout.Goals as goal

pub returns-then-not-roomy : goal.returns-then-not-roomy
unfolding of_bits div
returns-then-not-roomy c = rw (sym c.roomy.ensures ∙ c.if-not-roomy.true) (record { value = refl; slack_after = refl })

pub follow-followed-requires : goal.follow-followed-requires
follow-followed-requires c =
    let s = c.args.c in
    let r = room_of _ _ _ (sym c.roomy.ensures ∙ c.if-not-roomy.false) in
    (r.0, omega (arith, r.1, add-mul (left_of s).0 s.brake.0 s.per.0), r.2)

pub returns-then-not-inside : goal.returns-then-not-inside
unfolding of_bits div after
returns-then-not-inside c =
    let s = c.args in
    let t = task_of s.g s.w s.c s.start s.rows.now in
    let f = c.follow-followed in
    let along_rows : Along binary64 t s.slack.now (row_substeps t) f.result f.new.slack = f.ensures.1 s.start s.slack.now (along_start (forecast binary64 t) (after binary64 t) s.slack.now s.start refl) in
    let u = unmade binary64 t s.slack.now f.result f.new.slack along_rows c.inward-inside.ensures (not-true _ c.if-not-inside.true) in
    rw (sym c.roomy.ensures ∙ c.if-not-roomy.false) (record { value = u.0; slack_after = u.1 })

pub hold-requires : goal.hold-requires
hold-requires c =
    let s = c.args.c in
    let r = room_of _ _ _ (sym c.roomy.ensures ∙ c.if-not-roomy.false) in
    let axes = (shape_of _ _ r.0).axes in
    let long : length c.inward-inside.result.at ≡ 8 = search rules in
    (axes, omega (arith, long, axes), omega (arith, r.1, add-mul (left_of s).0 s.brake.0 s.per.0, c.follow-followed.ensures.0, c.substeps_in-count.ensures, c.follow-followed.auto.slack), r.2)

-- N, of c's rows and its braking steps
whole : (c : Course) → (left_of c).0 * c.per.0 + (0 + c.brake.0) * c.per.0 ≡ ((left_of c).0 + c.brake.0) * c.per.0
whole c = ap (λ (b : ℕ). (left_of c).0 * c.per.0 + b * c.per.0) (zero-add c.brake.0) ∙ sym (add-mul (left_of c).0 c.brake.0 c.per.0)

pub returns : goal.returns
unfolding of_bits div after
returns c =
    let s = c.args in
    let t = task_of s.g s.w s.c s.start s.rows.now in
    let f = c.follow-followed in
    let along_rows : Along binary64 t s.slack.now (row_substeps t) f.result f.new.slack = f.ensures.1 s.start s.slack.now (along_start (forecast binary64 t) (after binary64 t) s.slack.now s.start refl) in
    let sound = not-false _ c.if-not-inside.false in
    -- where the rows leave the plant, the setpoint is made
    let to_setpoint : AlongLeg binary64 (leg_to binary64 t c.inward-inside.result.at) (forecast binary64 t) (after binary64 t) (row_substeps t) c.substeps_in-count.result f.result =
    λ e j b.
    let m = made_is binary64 t s.slack.now f.result f.new.slack along_rows c.inward-inside.ensures e in
    aimed_step binary64 t (row_substeps t + j) _ (aims_setpoint binary64 t (row_substeps t + j) (omega arith) ∙ sym (λ i. record { value = (m i).at; sound = (sym sound ∙ ap (λ (x : Row). x.sound) m) i }))
    in
    let along_whole : Along binary64 t s.slack.now (total t) c.hold.result c.hold.new.slack =
    along_at (forecast binary64 t) (after binary64 t) s.slack.now (total t) c.hold.result c.hold.new.slack (row_substeps t + c.substeps_in-count.result)
    (ap (λ (n : ℕ). row_substeps t + n) c.substeps_in-count.ensures ∙ whole s.c)
    (c.hold.ensures.1 (forecast binary64 t) (after binary64 t) s.slack.now (row_substeps t) to_setpoint along_rows)
    in
    let all = all_come binary64 t s.slack.now f.result f.new.slack along_rows c.inward-inside.ensures sound c.hold.result c.hold.new.slack along_whole in
    rw (sym c.roomy.ensures ∙ c.if-not-roomy.false) (record { value = all.0; slack_after = all.1 })
