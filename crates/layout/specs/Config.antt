-- The configuration in flat arrays: 53 numbers and 35 counts and codes. The calibration's two tables of 192 are lent as they are.
use Rattle.envelope.specs.declared.Zone.{Zone}
use Rattle.envelope.specs.Slots.{zone_with}
use Rattle.std.specs.Prelude.{ℕ, zero, suc, Bool, ◌&&◌, ◌||◌, List, [], ◌∷◌, ◌++◌, leb, ltb, eqb, Float, if◌then◌else◌, Option}
use Rattle.checked.specs.Each.{at, every}
use Rattle.conformal.specs.declared.Calibration.{Calibration}
use Rattle.conformal.specs.declared.GateSpec.{GateSpec}
use Rattle.envelope.specs.declared.ActionKind.{ActionKind}
use Rattle.envelope.specs.declared.ActionKind.TheVariants as K
use Rattle.envelope.specs.declared.ClampMode.{ClampMode}
use Rattle.envelope.specs.declared.ClampMode.TheVariants as M
use Rattle.envelope.specs.declared.AbsentCamera.{AbsentCamera}
use Rattle.envelope.specs.declared.AbsentCamera.TheVariants as A
use Rattle.envelope.specs.declared.Gripper.{Gripper}
use Rattle.envelope.specs.declared.Gripper.TheVariants as G
use Rattle.envelope.specs.declared.BrakeKind.{BrakeKind}
use Rattle.envelope.specs.declared.BrakeKind.TheVariants as B
use Rattle.envelope.specs.declared.Zones.{Zones}
use Rattle.envelope.specs.declared.Limits.{Limits}
use Rattle.envelope.specs.declared.Norm.{Norm}
use Rattle.envelope.specs.declared.Box.{Box}
use Rattle.envelope.specs.declared.BrakeModel.{BrakeModel}
use Rattle.envelope.specs.declared.Derived.{Derived}
use Rattle.envelope.specs.declared.FuseConfig.{FuseConfig}
use Rattle.workspace.specs.declared.Shape.{Shape}
use Rattle.workspace.specs.declared.Shape.TheVariants as S
use Rattle.layout.specs.Places.{count, part, in8, in16, in32, short, long}

-- ---- codes

unfoldable pub kind_of : ℕ → ActionKind
kind_of zero = K.EePosition
kind_of (suc zero) = K.EeDelta
kind_of (suc (suc zero)) = K.JointPosition
kind_of (suc (suc (suc zero))) = K.JointVelocity
kind_of (suc (suc (suc (suc k)))) = K.Other

unfoldable pub clamp_of : ℕ → ClampMode
clamp_of zero = M.Off
clamp_of (suc k) = M.Project

unfoldable pub absent_camera_of : ℕ → AbsentCamera
absent_camera_of zero = A.Slow
absent_camera_of (suc zero) = A.NoZone
absent_camera_of (suc (suc k)) = A.Slow

unfoldable pub shape_of : ℕ → Float → Float → Float → Shape
shape_of zero x y radius = S.Box
shape_of (suc zero) x y radius = S.Disc x y radius
shape_of (suc (suc k)) x y radius = S.Box

unfoldable pub gripper_of : ℕ → Gripper
gripper_of zero = G.ToZero
gripper_of (suc zero) = G.LastCommand
gripper_of (suc (suc k)) = G.ToZero

unfoldable pub brake_kind_of : ℕ → Float → Float → Float → BrakeKind
brake_kind_of zero kp kv dt = B.PdSecondOrder kp kv dt
brake_kind_of (suc zero) kp kv dt = B.FirstOrderDecay kp kv dt
brake_kind_of (suc (suc zero)) kp kv dt = B.BoundedAccel kp kv dt
brake_kind_of (suc (suc (suc zero))) kp kv dt = B.JerkLimited kp kv dt
brake_kind_of (suc (suc (suc (suc k)))) kp kv dt = B.ZeroVelocityHold kp kv dt

-- ---- the parts, n being the numbers and c the counts

-- numbers 0 to 5
unfoldable pub limits_of : List Float → Limits
limits_of n = record { dt = at n 0; v_max = at n 1; a_max = at n 2; j_max = at n 3; reach_max = at n 4; margin = at n 5 }

-- numbers 6 to 8, counts 4 and 8 to 11
unfoldable pub brake_of : List Float → List ℕ → BrakeModel
brake_of n c = record {
  kind = brake_kind_of (count c 4) (at n 6) (at n 7) (at n 8);
  substeps = record { 0 = in16 (count c 8) };
  commit = record { 0 = in16 (count c 9) };
  brake_steps = record { 0 = in16 (count c 10) };
  react_ticks = in16 (count c 11);
}

-- a channel beside the other one: where either does not fit, both become the field's largest, and so equal
abbrev pub channel_of : ℕ → ℕ → ℕ
channel_of own other = if leb other 255 then in8 own else 255

unfoldable pub zone_of : Float → Float → ℕ → ℕ → Option Zone
zone_of radius speed first second = zone_with (channel_of first second) (channel_of second first) radius speed

-- count 5; the first zone is numbers 9 and 10 and counts 6 and 7, the further ones are numbers 44 to 49 and counts 27 to 32
unfoldable pub zones_of : List Float → List ℕ → Zones
zones_of n c = record {
  count = in8 (count c 5);
  list =
      zone_of (at n 9) (at n 10) (count c 6) (count c 7)
      ∷ zone_of (at n 44) (at n 45) (count c 27) (count c 28)
      ∷ zone_of (at n 46) (at n 47) (count c 29) (count c 30)
      ∷ zone_of (at n 48) (at n 49) (count c 31) (count c 32) ∷ [];
}

-- numbers 11 to 26
unfoldable pub norm_of : List Float → Norm
norm_of n = record { center = part n 11 8; scale = part n 19 8 }

-- numbers 27 to 42
unfoldable pub walls_of : List Float → Box
walls_of n = record { lo = part n 27 8; hi = part n 35 8 }

-- counts 12 to 19 and 24
unfoldable pub gate_of : List ℕ → GateSpec
gate_of c = record {
  n_terms = in8 (count c 24);
  terms =
      in32 (count c 12) ∷ in32 (count c 13) ∷ in32 (count c 14) ∷ in32 (count c 15)
      ∷ in32 (count c 16) ∷ in32 (count c 17) ∷ in32 (count c 18) ∷ in32 (count c 19) ∷ [];
}

-- number 43, counts 12 to 19, 23 and 24
unfoldable pub calibration_of : List Float → List ℕ → Calibration
calibration_of n c = record { mask = in32 (count c 23); gate = gate_of c; tau = at n 43 }

-- ---- all of it

unfoldable pub config_of : List Float → List ℕ → FuseConfig
config_of n c = record {
  kind = kind_of (count c 2);
  dim = count c 0;
  pos_dim = count c 1;
  limits = limits_of n;
  norm = norm_of n;
  walls = walls_of n;
  shape = shape_of (count c 33) (at n 50) (at n 51) (at n 52);
  zones = zones_of n c;
  absent_camera = absent_camera_of (count c 26);
  brake = brake_of n c;
  gripper = gripper_of (count c 34);
  clamp = clamp_of (count c 3);
  armed = in32 (count c 20);
  aux_count = count c 21;
  calibrated = eqb (count c 22) 1;
  calib = calibration_of n c;
  horizon_ticks = in32 (count c 25);
}

-- ---- what fits, field by field of the table (R0)
-- Fields as wide as the array: dim, pos_dim and aux_count (counts 0, 1 and 21).
-- Cut, since row 1 or 3 refuses all that does not fit: the count of zones (5), substeps, commit and brake_steps (8 to 10), the counted terms (12 to 19), mask and n_terms (23, 24).
-- Judged here: the codes of kind, clamp and brake and the calibration's flag (2 to 4 and 22), the choices (26, 33 and 34), the channels of each zone that counts (6, 7 and 27 to 32), react_ticks (11), armed (20) and, with a calibration, horizon_ticks (25).

-- a zone's channels fit, or row 4 refuses them by themselves: they are equal, or one is at or above aux_count
unfoldable pub zone_held : ℕ → ℕ → ℕ → Bool
zone_held first second aux = (leb first 255 && leb second 255) || eqb first second || leb aux first || leb aux second

-- those of each zone that counts
unfoldable pub zones_held : List ℕ → Bool
zones_held c =
    every
    ((ltb (count c 5) 1 || zone_held (count c 6) (count c 7) (count c 21))
    ∷ (ltb (count c 5) 2 || zone_held (count c 27) (count c 28) (count c 21))
    ∷ (ltb (count c 5) 3 || zone_held (count c 29) (count c 30) (count c 21))
    ∷ (ltb (count c 5) 4 || zone_held (count c 31) (count c 32) (count c 21)) ∷ [])

-- the codes of kind, clamp and brake, and the flag of the calibration, are ones that there are
unfoldable pub codes_fit : List ℕ → Bool
codes_fit c = every (leb (count c 2) 4 ∷ leb (count c 3) 1 ∷ leb (count c 4) 4 ∷ leb (count c 22) 1 ∷ [])

-- each choice is one of its two: for an absent camera, of the shape, and of the gripper's mode
unfoldable pub choices_fit : List ℕ → Bool
choices_fit c = every (leb (count c 26) 1 ∷ leb (count c 33) 1 ∷ leb (count c 34) 1 ∷ [])

-- react_ticks and armed fit their fields
unfoldable pub fields_fit : List ℕ → Bool
fields_fit c = every (short (count c 11) ∷ long (count c 20) ∷ [])

-- all of it; the channels are read where their zone counts, horizon_ticks where there is a calibration
unfoldable pub counts_fit : List ℕ → Bool
counts_fit c = every (codes_fit c ∷ choices_fit c ∷ fields_fit c ∷ zones_held c ∷ (eqb (count c 22) 0 || long (count c 25)) ∷ [])

-- ---- what is derived, laid out in 29 numbers
unfoldable pub derived_flat : Derived → List Float
derived_flat d =
    (d.inv_dt ∷ d.inv_dt2 ∷ d.inv_dt3 ∷ d.step_max ∷ d.norm_scale_iso ∷ [])
    ++ part d.box_lo 0 8 ++ part d.box_hi 0 8 ++ part d.inv_norm_scale 0 8
