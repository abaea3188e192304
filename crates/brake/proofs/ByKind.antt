-- A brake kind other than the second-order one is a closed kind: what its entries are, and how many.
use Prim.Native.Nat.{ℕ, suc}
use mathlib.Core.Path.{◌≡◌, refl, sym}
use mathlib.Core.Logic.{inl, inr}
use mathlib.Core.List.{List, [], ◌∷◌}
use native.Mathlib.Omega.{arith}
use types.Run.{OneOf}
use denote.Enum.Declared.{tag_of}
use lib.Ieee.{Float, Format}
use Rattle.chunk.specs.declared.Header.{Header}
use Rattle.envelope.specs.declared.BrakeKind.{BrakeKind}
use Rattle.envelope.specs.declared.BrakeKind.TheVariants.{PdSecondOrder, FirstOrderDecay, BoundedAccel, JerkLimited, ZeroVelocityHold}
use Rattle.envelope.specs.declared.BrakeModel.{BrakeModel}
use Rattle.envelope.specs.declared.FuseConfig.{FuseConfig}
use Rattle.envelope.specs.contracts.BrakeKind as kind
use Rattle.workspace.specs.declared.Workspace.{Workspace}
use Rattle.course.specs.declared.Course.{Course}
use Rattle.course.specs.declared.Plant.{Plant}
use Rattle.course.specs.Rows.{rows_left}
use Rattle.rollout.specs.Rule as rollout
use Rattle.rollout.specs.Of as rolled
use Rattle.stopping.specs.declared.Arm.{Arm}
use Rattle.stopping.specs.Rule as stopping
use Rattle.stopping.specs.Of as stopped
use Rattle.brake.specs.Rule.{arm_of, closed, forecast_by, forecast_of}
use Rattle.brake.specs.Of.{workspace_for, course_for, start_for, count_for}

abbrev pub Other : BrakeKind → Type 0
Other k = OneOf (1 ∷ 2 ∷ 3 ∷ 4 ∷ []) (tag_of kind.the_type k)

-- not the second-order one
pub other_of : (k : BrakeKind) → ((x y z : Float) → k ≡ PdSecondOrder x y z → ⊥) → Other k
other_of (PdSecondOrder x y z) h = absurd (h x y z refl)
other_of (FirstOrderDecay x y z) h = inl refl
other_of (BoundedAccel x y z) h = inr (inl refl)
other_of (JerkLimited x y z) h = inr (inr (inl refl))
other_of (ZeroVelocityHold x y z) h = inr (inr (inr refl))

no_tag : OneOf (1 ∷ 2 ∷ 3 ∷ 4 ∷ []) 0 → ⊥
no_tag (inl e) = omega arith
no_tag (inr (inl e)) = omega arith
no_tag (inr (inr (inl e))) = omega arith
no_tag (inr (inr (inr e))) = omega arith

pub other_count : (b : BrakeModel) (from : ℕ) (k : BrakeKind) → Other k → count_for b k from ≡ suc (rows_left b.commit from).0
other_count b from (PdSecondOrder kp kv dt) h = absurd (no_tag h)
other_count b from (FirstOrderDecay kp kv dt) h = refl
other_count b from (BoundedAccel kp kv dt) h = refl
other_count b from (JerkLimited kp kv dt) h = refl
other_count b from (ZeroVelocityHold kp kv dt) h = refl

module _ (f : Format) (c : FuseConfig) (p v rows : List Float) (head : Header) (from : ℕ) where
  pub other_forecast : (k : BrakeKind) → Other k → forecast_by f c p v rows head from k ≡ stopping.forecast f (closed f c p v rows head from)
  unfolding forecast_by
  other_forecast (PdSecondOrder kp kv dt) o = absurd (no_tag o)
  other_forecast (FirstOrderDecay kp kv dt) o = refl
  other_forecast (BoundedAccel kp kv dt) o = refl
  other_forecast (JerkLimited kp kv dt) o = refl
  other_forecast (ZeroVelocityHold kp kv dt) o = refl

  -- the number of entries that is judged is the forecast's
  pub count_is : (k : BrakeKind) → (forecast_by f c p v rows head from k).count ≡ count_for c.brake k from
  unfolding forecast_by
  count_is (PdSecondOrder kp kv dt) = refl
  count_is (FirstOrderDecay kp kv dt) = refl
  count_is (BoundedAccel kp kv dt) = refl
  count_is (JerkLimited kp kv dt) = refl
  count_is (ZeroVelocityHold kp kv dt) = refl

-- the forecast of what the code builds is the configuration's
module _ (f : Format) (c : FuseConfig) (p v rows : List Float) (head : Header) (from : ℕ) {w : Workspace} {course : Course} {start : Plant} (ew : w ≡ workspace_for f c) (ec : course ≡ course_for c head from) (es : start ≡ start_for c p v) where
  pub second_order_is : (kp kv dt : Float) → c.brake.kind ≡ PdSecondOrder kp kv dt
      → rollout.forecast f (rolled.task_of (record { k_p = kp; k_v = kv; dt = dt }) w course start rows) ≡ forecast_of f c p v rows head from
  unfolding forecast_by
  second_order_is kp kv dt e = rw (ew, ec, es, e)

  pub closed_is : {arm : Arm} → arm ≡ arm_of c → Other c.brake.kind
      → stopping.forecast f (stopped.task_of arm c.brake.react_ticks w course start rows) ≡ forecast_of f c p v rows head from
  closed_is ea o = rw (ew, ec, es, ea) (sym (other_forecast f c p v rows head from c.brake.kind o))
