-- `brake::forecast` meets its contract: by the kind of brake, at the walls, the course and the start of the configuration.
use mathlib.Core.Path.{ap, ◌∙◌}
use lib.ListN.{length}
use lib.Ieee.{binary64}
use Rattle.course.specs.Forecast.{Forecast, written_of}
use Rattle.brake.specs.Answer.{outcome}
use Rattle.brake.proofs.ByKind.{second_order_is, closed_is, other_of}
use Rattle.brake.proofs.Room.{second_order_room, closed_room}
use Rattle.brake.proofs.forecast.Goals as goal

pub second_order-requires : goal.second_order-requires
second_order-requires c =
    let s = c in
    rw c.course_of-course.ensures (second_order_room s.args.c (length s.args.rows.now) s.args.header s.args.from (length s.args.slack.now) s.requires.0 _ _ _ c.in-PdSecondOrder.is)

pub closed-requires : goal.closed-requires
closed-requires c =
    let s = c in
    rw c.course_of-course.ensures (closed_room s.args.c (length s.args.rows.now) s.args.header s.args.from (length s.args.slack.now) s.requires.0 (other_of s.args.c.brake.kind c.in_default.not-PdSecondOrder))

pub returns-in-PdSecondOrder : goal.returns-in-PdSecondOrder
returns-in-PdSecondOrder c =
    let s = c in
    let e = second_order_is binary64 s.args.c s.args.pos.now s.args.vel.now s.args.rows.now s.args.header s.args.from s.requires.1 c.course_of-course.ensures c.start_of-start.ensures _ _ _ c.in-PdSecondOrder.is in
    (c.second_order.ensures.0 ∙ ap outcome e, c.second_order.ensures.1 ∙ ap (λ (t : Forecast). written_of t s.args.slack.now) e)

pub returns-in_default : goal.returns-in_default
returns-in_default c =
    let s = c in
    let e = closed_is binary64 s.args.c s.args.pos.now s.args.vel.now s.args.rows.now s.args.header s.args.from s.requires.1 c.course_of-course.ensures c.start_of-start.ensures c.arm_of-arm.ensures (other_of s.args.c.brake.kind c.in_default.not-PdSecondOrder) in
    (c.closed.ensures.0 ∙ ap outcome e, c.closed.ensures.1 ∙ ap (λ (t : Forecast). written_of t s.args.slack.now) e)
