-- A configuration with a box on every axis, in the words of a guard that knows no other shape: what is derived from it, and the list that is judged. What is promised is that
-- a configuration whose shape is the box has these.
use Rattle.std.specs.Prelude.{ℕ, Bool, not, List, [], ◌∷◌, ltb}
use Rattle.std.specs.Float.{Format}
use Rattle.std.specs.Float.Ieee.{add, sub}
use Rattle.refusal.specs.Order.{Judged, size, number, steps, channels, withdrawn, ◌when◌}
use Rattle.checked.specs.Each.{at, every, table}
use Rattle.checked.specs.Finite.{all_finite}
use Rattle.conformal.specs.Rule.{Tables}
use Rattle.envelope.specs.Derive.{kept, inv_dt_of, inv_dt2_of, inv_dt3_of, step_max_of, inverses, isotropic}
use Rattle.envelope.specs.Refusals.{sizes_ok, limits_ok, brake_ok, zones_ok, norm_ok, derived_ok, calibration_ok, steps_ok, channels_fit, features_ok}
use Rattle.envelope.specs.declared.Derived.{Derived}
use Rattle.envelope.specs.declared.FuseConfig.{FuseConfig}

-- each wall of the first pos_dim axes moved inward by the margin, 0.0 past them
abbrev pub box_derived : Format → FuseConfig → Derived
box_derived f c = record {
  inv_dt = inv_dt_of f c.limits.dt;
  inv_dt2 = inv_dt2_of f c.limits.dt;
  inv_dt3 = inv_dt3_of f c.limits.dt;
  step_max = step_max_of f c.limits.v_max c.limits.dt;
  box_lo = table (λ (i : ℕ). kept (ltb i c.pos_dim) (add f (at c.walls.lo i) c.limits.margin)) 8;
  box_hi = table (λ (i : ℕ). kept (ltb i c.pos_dim) (sub f (at c.walls.hi i) c.limits.margin)) 8;
  inv_norm_scale = inverses f c.norm.scale c.dim;
  norm_scale_iso = isotropic c.norm.scale c.dim;
}

-- all numbers: of the box those of the first pos_dim axes
abbrev pub box_numbers_ok : Format → FuseConfig → Tables → Bool
box_numbers_ok f c t =
    every
    (limits_ok c.limits ∷ brake_ok c.brake.kind ∷ zones_ok c.zones ∷ norm_ok c.norm c.dim
    ∷ every (all_finite c.walls.lo c.pos_dim ∷ all_finite c.walls.hi c.pos_dim ∷ [])
    ∷ derived_ok (box_derived f c) ∷ calibration_ok c t ∷ [])

-- 1 to 4 and 17
abbrev pub box_judged : Format → FuseConfig → Tables → List Judged
box_judged f c t =
    (size when not (sizes_ok c))
    ∷ (number when not (box_numbers_ok f c t))
    ∷ (steps when not (steps_ok c))
    ∷ (channels when not (channels_fit c))
    ∷ (withdrawn when not (features_ok c)) ∷ []
