-- What the contracts of `card::desk` cite: the configuration of a card (R9.2), its forecast by the brake's rule, and what the desk is answered.
use Rattle.refusal.specs.declared.Refusal.{Refusal}
use Rattle.std.specs.Prelude.{ℕ, ◌-◌, false, List, [], ◌∷◌, eqb, replicate, Float, if◌then◌else◌, Err, Result, Ok}
use Rattle.std.specs.Float.{binary64}
use Rattle.std.specs.Float.Ieee.{of_bits, to_bits}
use Rattle.refusal.specs.Order.{computed, number_of}
use Rattle.checked.specs.Constants.{1! }
use Rattle.checked.specs.Finite.{+0}
use Rattle.chunk.specs.declared.Header.{Header}
use Rattle.conformal.specs.Of.{tables}
use Rattle.conformal.specs.Rule.{Tables}
use Rattle.conformal.specs.declared.Calibration.{Calibration}
use Rattle.envelope.specs.declared.ActionKind.TheVariants.{EePosition}
use Rattle.envelope.specs.declared.ClampMode.TheVariants.{Off}
use Rattle.envelope.specs.declared.AbsentCamera.TheVariants.{Slow}
use Rattle.envelope.specs.declared.Gripper.TheVariants.{ToZero}
use Rattle.envelope.specs.declared.BrakeKind.TheVariants.{PdSecondOrder}
use Rattle.envelope.specs.Slots.{no_zones}
use Rattle.envelope.specs.declared.Limits.{Limits}
use Rattle.envelope.specs.declared.Norm.{Norm}
use Rattle.envelope.specs.declared.Box.{Box}
use Rattle.envelope.specs.declared.BrakeModel.{BrakeModel}
use Rattle.envelope.specs.declared.FuseConfig.{FuseConfig}
use Rattle.workspace.specs.declared.Shape.TheVariants as shapes
use Rattle.brake.specs.Answer.{forecast_answer, forecast_slacks}
use Rattle.brake.specs.declared.BrakeOut.{BrakeOut}
use Rattle.card.specs.declared.record.Card.{Card}
use Rattle.card.specs.declared.desk.Answer.{Answer}

-- a card's number, whose pattern it keeps
abbrev pub num : ℕ → Float
num b = of_bits binary64 b

-- ---- the configuration: what the card does not give is 1.0, the margin 0

unfoldable pub calibration_of : Calibration
calibration_of = record {
  mask = 0;
  gate = record { n_terms = 0; terms = replicate 8 0 };
  tau = 1!;
}

abbrev pub tables_of : Tables
tables_of = tables (replicate 192 1!) (replicate 192 1!)

unfoldable pub limits_of : Limits
limits_of = record { dt = 1!; v_max = 1!; a_max = 1!; j_max = 1!; reach_max = 1!; margin = +0 }

unfoldable pub norm_of : Norm
norm_of = record { center = replicate 8 1!; scale = replicate 8 1! }

unfoldable pub walls_of : Card → Box
walls_of c = record { lo = replicate 8 (num c.lo); hi = replicate 8 (num c.hi) }

unfoldable pub brake_of : Card → BrakeModel
brake_of c = record {
  kind = PdSecondOrder (num c.k_p) (num c.k_v) (num c.dt);
  substeps = record { 0 = c.substeps };
  commit = record { 0 = c.commit };
  brake_steps = record { 0 = c.brake_steps };
  react_ticks = 1;
}

-- one axis, the PD brake, no zone, no calibration, nothing armed
unfoldable pub config_of : Card → FuseConfig
config_of c = record {
  kind = EePosition;
  dim = 1;
  pos_dim = 1;
  limits = limits_of;
  norm = norm_of;
  walls = walls_of c;
  shape = shapes.Box;
  zones = no_zones;
  absent_camera = Slow;
  brake = brake_of c;
  gripper = ToZero;
  clamp = Off;
  armed = 0;
  aux_count = 0;
  calibrated = false;
  calib = calibration_of;
  horizon_ticks = 1;
}

-- ---- the forecast, on a horizon of 4

abbrev pub rows_of : Card → List Float
rows_of c = num c.row0 ∷ num c.row1 ∷ num c.row2 ∷ num c.row3 ∷ []

-- one of them to be executed
abbrev pub four_rows : Header
four_rows = record { seq = 0; t_emit = 0; horizon = 4; dim = 1; exec_steps = 1 }

unfoldable pub outcome_of : Card → ℕ → Result BrakeOut Refusal
outcome_of c room = forecast_answer binary64 (config_of c) tables_of (num c.p ∷ []) (num c.v ∷ []) (rows_of c) four_rows c.from room

unfoldable pub slacks_of : Card → List Float → List Float
slacks_of c l = forecast_slacks binary64 (config_of c) tables_of (num c.p ∷ []) (num c.v ∷ []) (rows_of c) four_rows c.from l

-- ---- the answer

-- a refusal's count: place minus 1 for 13, else 0
unfoldable pub count_of : ℕ → ℕ → ℕ
count_of number place = if eqb number (number_of computed) then place - 1 else 0

-- the numbers of a line, with the bits of the margin and of the stop distance
unfoldable pub answer_for : Result BrakeOut Refusal → Answer
answer_for (Ok o) = record { number = 0; count = o.count; margin = to_bits binary64 o.margin; stop = to_bits binary64 o.stop_dist }
answer_for (Err r) = record { number = r.number; count = count_of r.number r.place; margin = 0; stop = 0 }
