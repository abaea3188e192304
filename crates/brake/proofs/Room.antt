-- A call where nothing is refused has room for the run of its kind.
use Prim.Native.Nat.{ℕ, suc, ◌≤◌, ◌<◌}
use mathlib.Core.Path.{◌≡◌, ap}
use mathlib.Core.Bool.{true}
use native.Mathlib.Omega.{arith}
use borrow.Author.Tests.{le-leb, lt-ltb}
use lib.Ieee.{Float}
use Rattle.checked.specs.Each.{every, every_from}
use Rattle.chunk.specs.declared.Header.{Header}
use Rattle.envelope.specs.declared.BrakeKind.{BrakeKind}
use Rattle.envelope.specs.declared.BrakeKind.TheVariants.{PdSecondOrder}
use Rattle.envelope.specs.declared.FuseConfig.{FuseConfig}
use Rattle.envelope.specs.Steps.{substeps_in}
use Rattle.course.specs.Rows.{rows_left}
use Rattle.course.specs.Of.{shaped}
use Rattle.rollout.specs.Of as rolled
use Rattle.course.proofs.Room.{is_shaped}
use Rattle.stopping.specs.Of as stopped
use Rattle.brake.specs.Rule.{live}
use Rattle.brake.specs.Of.{course_for, count_for, Planned}
use Rattle.brake.proofs.ByKind.{Other, other_count}

module _ (c : FuseConfig) (len : ℕ) (head : Header) (from room : ℕ) (w : Planned c len head from room) where
  shape : shaped (course_for c head from) len ≡ true
  shape = is_shaped (course_for c head from) len (record { axes = axes; within = within; rowed = w.rowed; there = w.there })
    where
      axes : live c ≤ 8
      axes = omega (arith, w.narrow)

      within : live c ≤ head.dim
      within = omega (arith, w.wide)

  pub second_order_room : (kp kv dt : Float) → c.brake.kind ≡ PdSecondOrder kp kv dt
      → (rolled.roomy (course_for c head from) len room ≡ true) × (substeps_in (rows_left c.brake.commit from) c.brake.brake_steps c.brake.substeps ≤ 4096)
  unfolding rolled.roomy every every_from
  second_order_room kp kv dt e =
      let n = substeps_in (rows_left c.brake.commit from) c.brake.brake_steps c.brake.substeps in
      let k : count_for c.brake c.brake.kind from ≡ n = ap (λ (x : BrakeKind). count_for c.brake x from) e in
      let few : n ≤ 4096 = rw (← k) w.few in
      let space : n ≤ room = rw (← k) w.space in
      (rw (shape, le-leb _ _ w.parted, le-leb _ _ space, le-leb 1 (live c) w.moves), few)

  pub closed_room : Other c.brake.kind
      → (stopped.roomy (course_for c head from) len room ≡ true) × (suc (rows_left c.brake.commit from).0 ≤ 4096)
  unfolding stopped.roomy every every_from
  closed_room o =
      let n = (rows_left c.brake.commit from).0 in
      let k = other_count c.brake from c.brake.kind o in
      let few : suc n ≤ 4096 = rw (← k) w.few in
      let space : n < room = rw (← k) w.space in
      (rw (shape, lt-ltb _ _ space), few)
