-- When a configuration is refused: one condition for each number of the table (R0), and the list that is judged.
use Rattle.envelope.specs.declared.Zone.{Zone}
use Rattle.std.specs.Prelude.{ℕ, Bool, true, false, not, ◌&&◌, ◌||◌, List, [], ◌∷◌, leb, ltb, eqb, Float, None, Option, Some}
use Rattle.std.specs.Float.{Format}
use Rattle.std.specs.Float.Ieee.{lt}
use Rattle.refusal.specs.Order.{Judged, size, number, steps, channels, shape, withdrawn, ◌when◌, refusal, judged_by}
use Rattle.checked.specs.Each.{at, all, every}
use Rattle.checked.specs.Finite.{finite, above_zero, not_below_zero, all_finite, all_above_zero}
use Rattle.conformal.specs.Refusals as calibration
use Rattle.conformal.specs.Rule.{Tables}
use Rattle.workspace.specs.declared.Shape.{Shape}
use Rattle.workspace.specs.Shape.{boxed, shape_ok, spans}
use Rattle.envelope.specs.Derive.{derived}
use Rattle.envelope.specs.Steps.{substeps_in}
use Rattle.envelope.specs.Slots.{counted, zone_at}
use Rattle.envelope.specs.declared.BrakeKind.{BrakeKind}
use Rattle.envelope.specs.declared.BrakeKind.TheVariants.{PdSecondOrder, FirstOrderDecay, BoundedAccel, JerkLimited, ZeroVelocityHold}
use Rattle.envelope.specs.declared.Zones.{Zones}
use Rattle.envelope.specs.declared.Limits.{Limits}
use Rattle.envelope.specs.declared.Norm.{Norm}
use Rattle.envelope.specs.declared.Box.{Box}
use Rattle.envelope.specs.declared.BrakeModel.{BrakeModel}
use Rattle.envelope.specs.declared.Derived.{Derived}
use Rattle.envelope.specs.declared.FuseConfig.{FuseConfig}
use Rattle.envelope.specs.declared.Compiled.{Compiled}

-- ---- 1

-- dim and pos_dim are in 1..8, and the count of zones is at most 4; where the flag is set, the calibration's sizes are right
unfoldable pub sizes_ok : FuseConfig → Bool
sizes_ok c =
    every
    (leb 1 c.dim ∷ leb c.dim 8 ∷ leb 1 c.pos_dim ∷ leb c.pos_dim 8 ∷ leb c.zones.count 4
    ∷ (not c.calibrated || calibration.sizes_ok c.calib) ∷ [])

-- ---- 2

-- dt and the maxima are above 0, the margin is not below 0
unfoldable pub limits_ok : Limits → Bool
limits_ok l =
    every
    (above_zero l.dt ∷ above_zero l.v_max ∷ above_zero l.a_max ∷ above_zero l.j_max ∷ above_zero l.reach_max
    ∷ not_below_zero l.margin ∷ [])

-- k_p is not below 0, k_v and the brake's dt are above 0
unfoldable pub gains_ok : Float → Float → Float → Bool
gains_ok kp kv dt = every (not_below_zero kp ∷ above_zero kv ∷ above_zero dt ∷ [])

abbrev pub brake_ok : BrakeKind → Bool
brake_ok (PdSecondOrder kp kv dt) = gains_ok kp kv dt
brake_ok (FirstOrderDecay kp kv dt) = gains_ok kp kv dt
brake_ok (BoundedAccel kp kv dt) = gains_ok kp kv dt
brake_ok (JerkLimited kp kv dt) = gains_ok kp kv dt
brake_ok (ZeroVelocityHold kp kv dt) = gains_ok kp kv dt

-- a zone's radius is not below 0, its speed is above 0
abbrev pub zone_ok : Option Zone → Bool
zone_ok None = true
zone_ok (Some z) = not_below_zero z.radius && above_zero z.v_max

-- each zone that counts
unfoldable pub zones_ok : Zones → Bool
zones_ok z = all (λ (k : ℕ). zone_ok (zone_at z k)) (counted z)

-- on the first dim coordinates each center is finite and each scale above 0
unfoldable pub norm_ok : Norm → ℕ → Bool
norm_ok norm dim = every (all_finite norm.center dim ∷ all_above_zero norm.scale dim ∷ [])

-- those of the first n walls whose axis has a box are finite
unfoldable pub walls_finite : Shape → List Float → ℕ → Bool
walls_finite s walls n = all (λ (i : ℕ). not (boxed s i) || finite (at walls i)) n

-- so are the walls of the first pos_dim axes
unfoldable pub box_ok : Shape → Box → ℕ → Bool
box_ok s walls pos-dim = every (walls_finite s walls.lo pos-dim ∷ walls_finite s walls.hi pos-dim ∷ [])

-- no low wall exceeds its high wall
unfoldable pub ordered : List Float → List Float → Bool
ordered lo hi = all (λ (i : ℕ). not (lt (at hi i) (at lo i))) 8

unfoldable pub scalars_ok : Derived → Bool
scalars_ok d =
    every
    (finite d.inv_dt ∷ finite d.inv_dt2 ∷ finite d.inv_dt3 ∷ finite d.step_max
    ∷ finite d.norm_scale_iso ∷ [])

-- what is derived (R4) is finite, and the walls that it moved inward have not crossed
unfoldable pub derived_ok : Derived → Bool
derived_ok d =
    every
    (scalars_ok d ∷ all_finite d.box_lo 8 ∷ all_finite d.box_hi 8 ∷ all_finite d.inv_norm_scale 8
    ∷ ordered d.box_lo d.box_hi ∷ [])

-- where the flag is set, the calibration's numbers are right
abbrev pub calibration_ok : FuseConfig → Tables → Bool
calibration_ok c t = not c.calibrated || calibration.numbers_ok c.calib t

-- all numbers, where d is derived
unfoldable pub numbers_from : FuseConfig → Derived → Tables → Bool
numbers_from c d t =
    every
    (limits_ok c.limits ∷ brake_ok c.brake.kind ∷ zones_ok c.zones ∷ norm_ok c.norm c.dim
    ∷ shape_ok c.shape ∷ box_ok c.shape c.walls c.pos_dim ∷ derived_ok d ∷ calibration_ok c t ∷ [])

abbrev pub numbers_ok : Format → FuseConfig → Tables → Bool
numbers_ok f c t = numbers_from c (derived f c) t

-- ---- 3

-- 1 to 64 substeps, at most 64 committed steps, and at most 4,096 substeps in all
unfoldable pub counts_ok : BrakeModel → Bool
counts_ok b =
    every
    (leb 1 b.substeps.0 ∷ leb b.substeps.0 64 ∷ leb b.commit.0 64
    ∷ leb (substeps_in b.commit b.brake_steps b.substeps) 4096 ∷ [])

-- the counts, and, where the flag is set, a horizon of a tick or more
unfoldable pub steps_ok : FuseConfig → Bool
steps_ok c = every (counts_ok c.brake ∷ (not c.calibrated || ltb 0 c.horizon_ticks) ∷ [])

-- ---- 4

-- a zone's two channels differ and each is below the declared count
abbrev pub channels_ok : Option Zone → ℕ → Bool
channels_ok None aux = true
channels_ok (Some z) aux = not (eqb z.a0 z.a1) && ltb z.a0 aux && ltb z.a1 aux

-- two zones name the same channels in the same order
abbrev pub same_pair : Option Zone → Option Zone → Bool
same_pair None z = false
same_pair (Some z) None = false
same_pair (Some z) (Some o) = eqb z.a0 o.a0 && eqb z.a1 o.a1

-- no place before k has the pair of the zone there
unfoldable pub pair_is_own : Zones → ℕ → Bool
pair_is_own z k = all (λ (m : ℕ). not (same_pair (zone_at z m) (zone_at z k))) k

-- the channels of each zone that counts are right, and its pair is its own
unfoldable pub zones_fit : Zones → ℕ → Bool
zones_fit z aux = all (λ (k : ℕ). channels_ok (zone_at z k) aux && pair_is_own z k) (counted z)

-- ---- 15

-- the action and the position have the coordinates that a disc lies over
abbrev pub shape_fits : FuseConfig → Bool
shape_fits c = spans c.shape c.dim c.pos_dim

-- ---- 17

-- where the flag is set, the calibration's features are right
abbrev pub features_ok : FuseConfig → Bool
features_ok c = not c.calibrated || calibration.features_ok c.calib

-- ---- what is judged of a configuration

abbrev pub channels_fit : FuseConfig → Bool
channels_fit c = zones_fit c.zones c.aux_count

abbrev pub config_judged : Format → FuseConfig → Tables → List Judged
config_judged f c t =
    (size when not (sizes_ok c))
    ∷ (number when not (numbers_ok f c t))
    ∷ (steps when not (steps_ok c))
    ∷ (channels when not (channels_fit c))
    ∷ (shape when not (shape_fits c))
    ∷ (withdrawn when not (features_ok c)) ∷ []

-- what is judged of it, and what is derived from it
abbrev pub compiled : Format → FuseConfig → Tables → Compiled
compiled f c t = record { judged = judged_by (refusal (config_judged f c t)); derived = derived f c }
