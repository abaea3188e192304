-- A struct whose taken-apart parts are right is right: one law for each struct of many parts.
use Rattle.std.specs.Prelude.{Option}
use Rattle.envelope.specs.declared.Zone.{Zone}
use mathlib.Core.Path.{◌≡◌}
use mathlib.Core.List.{List, [], ◌∷◌}
use Prim.Native.Nat.{ℕ}
use lib.Dec.{eqb}
use lib.Ieee.{Float}
use Rattle.checked.specs.Each.{at}
use Rattle.conformal.specs.declared.Calibration.{Calibration}
use Rattle.conformal.specs.declared.GateSpec.{GateSpec}
use Rattle.envelope.specs.declared.ActionKind.{ActionKind}
use Rattle.envelope.specs.declared.ClampMode.{ClampMode}
use Rattle.envelope.specs.declared.AbsentCamera.{AbsentCamera}
use Rattle.envelope.specs.declared.Gripper.{Gripper}
use Rattle.envelope.specs.declared.BrakeKind.{BrakeKind}
use Rattle.envelope.specs.declared.Zones.{Zones}
use Rattle.envelope.specs.declared.Limits.{Limits}
use Rattle.envelope.specs.declared.Norm.{Norm}
use Rattle.envelope.specs.declared.Box.{Box}
use Rattle.envelope.specs.declared.BrakeModel.{BrakeModel}
use Rattle.envelope.specs.declared.FuseConfig.{FuseConfig}
use Rattle.workspace.specs.declared.Shape.{Shape}
use Rattle.layout.specs.Places.{count, in8, in16, in32}
use Rattle.layout.specs.Config.{kind_of, clamp_of, absent_camera_of, shape_of, gripper_of, brake_kind_of, limits_of, brake_of, zone_of, zones_of, norm_of, walls_of, gate_of, calibration_of, config_of}

pub whole_brake : (n : List Float) (c : List ℕ) {kind : BrakeKind} {per rows steps ticks : ℕ}
    → kind ≡ brake_kind_of (count c 4) (at n 6) (at n 7) (at n 8)
    → per ≡ in16 (count c 8)
    → rows ≡ in16 (count c 9)
    → steps ≡ in16 (count c 10)
    → ticks ≡ in16 (count c 11)
    → ◌≡◌ {A = BrakeModel}
    (record { kind = kind; substeps = record { 0 = per }; commit = record { 0 = rows }; brake_steps = record { 0 = steps }; react_ticks = ticks })
    (brake_of n c)
unfolding brake_of
whole_brake n c e1 e2 e3 e4 e5 = rw (e1, e2, e3, e4, e5)

pub whole_gate : (c : List ℕ) {k t0 t1 t2 t3 t4 t5 t6 t7 : ℕ}
    → k ≡ in8 (count c 24)
    → t0 ≡ in32 (count c 12)
    → t1 ≡ in32 (count c 13)
    → t2 ≡ in32 (count c 14)
    → t3 ≡ in32 (count c 15)
    → t4 ≡ in32 (count c 16)
    → t5 ≡ in32 (count c 17)
    → t6 ≡ in32 (count c 18)
    → t7 ≡ in32 (count c 19)
    → ◌≡◌ {A = GateSpec} (record { n_terms = k; terms = t0 ∷ t1 ∷ t2 ∷ t3 ∷ t4 ∷ t5 ∷ t6 ∷ t7 ∷ [] }) (gate_of c)
unfolding gate_of
whole_gate c e e0 e1 e2 e3 e4 e5 e6 e7 = rw (e, e0, e1, e2, e3, e4, e5, e6, e7)

pub whole_zones : (n : List Float) (c : List ℕ) {k : ℕ} {z0 z1 z2 z3 : Option Zone}
    → k ≡ in8 (count c 5)
    → z0 ≡ zone_of (at n 9) (at n 10) (count c 6) (count c 7)
    → z1 ≡ zone_of (at n 44) (at n 45) (count c 27) (count c 28)
    → z2 ≡ zone_of (at n 46) (at n 47) (count c 29) (count c 30)
    → z3 ≡ zone_of (at n 48) (at n 49) (count c 31) (count c 32)
    → ◌≡◌ {A = Zones} (record { count = k; list = z0 ∷ z1 ∷ z2 ∷ z3 ∷ [] }) (zones_of n c)
unfolding zones_of
whole_zones n c e e0 e1 e2 e3 = rw (e, e0, e1, e2, e3)

pub whole_config : (n : List Float) (c : List ℕ) {kind : ActionKind} {limits : Limits} {norm : Norm} {walls : Box} {shape : Shape} {zones : Zones} {brake : BrakeModel} {clamp : ClampMode} {calib : Calibration} {armed ticks : ℕ} {absent : AbsentCamera} {gripper : Gripper}
    → kind ≡ kind_of (count c 2)
    → limits ≡ limits_of n
    → norm ≡ norm_of n
    → walls ≡ walls_of n
    → shape ≡ shape_of (count c 33) (at n 50) (at n 51) (at n 52)
    → zones ≡ zones_of n c
    → brake ≡ brake_of n c
    → clamp ≡ clamp_of (count c 3)
    → armed ≡ in32 (count c 20)
    → calib ≡ calibration_of n c
    → ticks ≡ in32 (count c 25)
    → absent ≡ absent_camera_of (count c 26)
    → gripper ≡ gripper_of (count c 34)
    → ◌≡◌ {A = FuseConfig}
    (record {
      kind = kind;
      dim = count c 0;
      pos_dim = count c 1;
      limits = limits;
      norm = norm;
      walls = walls;
      shape = shape;
      zones = zones;
      absent_camera = absent;
      brake = brake;
      gripper = gripper;
      clamp = clamp;
      armed = armed;
      aux_count = count c 21;
      calibrated = eqb (count c 22) 1;
      calib = calib;
      horizon_ticks = ticks;
    })
    (config_of n c)
unfolding config_of
whole_config n c e1 e2 e3 e4 e5 e6 e7 e8 e9 e10 e11 e12 e13 = rw (e1, e2, e3, e4, e5, e6, e7, e8, e9, e10, e11, e12, e13)
