-- The inputs of the numbers on the wall that are proved (R10.7), and the whole answers that the definitions give for them. A float stands as its bits.
use Rattle.std.specs.Prelude.{ℕ, Bool, false, List, [], ◌∷◌, ◌++◌, map, replicate, Float, if◌then◌else◌, Err, Ok, Result}
use Rattle.std.specs.Float.{binary64}
use Rattle.std.specs.Float.Ieee.{to_bits}
use Rattle.refusal.specs.declared.Refusal.{Refusal}
use Rattle.checked.specs.Constants.{1! as one}
use Rattle.checked.specs.Finite.{+0}
use Rattle.fmath.specs.Answer.{sqrt_answer}
use Rattle.chunk.specs.declared.Header.{Header}
use Rattle.window.specs.Rule.{hits_in, mask_for}
use Rattle.window.specs.Of.{empty_window, pushed_of}
use Rattle.window.specs.declared.Window.{Window}
use Rattle.conformal.specs.Answer.{aggregated, tripped}
use Rattle.conformal.specs.declared.Calibration.{Calibration}
use Rattle.conformal.specs.declared.Scores.{Scores}
use Rattle.envelope.specs.declared.ActionKind.TheVariants.{EePosition}
use Rattle.envelope.specs.declared.ClampMode.TheVariants.{Project}
use Rattle.envelope.specs.declared.AbsentCamera.TheVariants.{Slow}
use Rattle.envelope.specs.declared.Gripper.TheVariants.{ToZero}
use Rattle.envelope.specs.Slots.{no_zones}
use Rattle.envelope.specs.declared.FuseConfig.{FuseConfig}
use Rattle.workspace.specs.declared.Shape.TheVariants.{Box}
use Rattle.tier0.specs.Rule.{SPEED}
use Rattle.tier0.specs.Of.{chunk_answer, chunk_out}
use Rattle.tier0.specs.declared.Tier0Out.{Tier0Out}
use Rattle.brake.specs.declared.BrakeOut.{BrakeOut}
use Rattle.card.specs.declared.record.Card.{Card}
use Rattle.card.specs.Desk.{tables_of, num, norm_of, walls_of, brake_of, calibration_of, outcome_of, slacks_of}

-- ---- numbers, flags and refusals as counts

abbrev pub bits : Float → ℕ
bits x = to_bits binary64 x

abbrev pub flag : Bool → ℕ
flag b = if b then 1 else 0

-- a refusal's number and place; an accepted answer starts with 0
abbrev pub refused : Refusal → List ℕ
refused r = r.number ∷ r.place ∷ []

-- ---- brake (R7): the desk's cards

abbrev pub 1! : ℕ
1! = 0x3ff0_0000_0000_0000

abbrev pub 2! : ℕ
2! = 0x4000_0000_0000_0000

-- F1 with another start, high wall, row to start from and number of braking steps
abbrev pub card : ℕ → ℕ → ℕ → ℕ → Card
card p hi from brake = record {
  k_p = 2!;
  k_v = 1!;
  dt = 0x3fe0_0000_0000_0000;
  lo = 0xbff0_0000_0000_0000;
  hi = hi;
  p = p;
  v = 0;
  row0 = 1!;
  row1 = 1!;
  row2 = 1!;
  row3 = 1!;
  substeps = 2;
  commit = 1;
  brake_steps = brake;
  from = from;
}

-- count, margin, whether it is feasible, stop distance
abbrev pub forecast_told : Result BrakeOut Refusal → List ℕ
forecast_told (Ok o) = 0 ∷ o.count ∷ bits o.margin ∷ flag o.feasible ∷ bits o.stop_dist ∷ []
forecast_told (Err r) = refused r

-- the answer, and then so many lent entries
abbrev pub forecast_of : Card → ℕ → List ℕ
forecast_of c room = forecast_told (outcome_of c room) ++ map bits (slacks_of c (replicate room +0))

-- ---- fmath (R1)

abbrev pub number_told : Result Float Refusal → List ℕ
number_told (Ok x) = 0 ∷ bits x ∷ []
number_told (Err r) = refused r

abbrev pub root_of : ℕ → List ℕ
root_of x = number_told (sqrt_answer binary64 (num x))

-- ---- tier0 (R5): two coordinates, SPEED alone armed, step 5

abbrev pub plane : FuseConfig
plane = record {
  kind = EePosition;
  dim = 2;
  pos_dim = 2;
  limits = record { dt = one; v_max = num 0x4014_0000_0000_0000; a_max = one; j_max = one; reach_max = one; margin = +0 };
  norm = norm_of;
  walls = walls_of (card 0 2! 0 1);
  shape = Box;
  zones = no_zones;
  absent_camera = Slow;
  brake = brake_of (card 0 2! 0 1);
  gripper = ToZero;
  clamp = Project;
  armed = SPEED;
  aux_count = 0;
  calibrated = false;
  calib = calibration_of;
  horizon_ticks = 1;
}

-- trips, clamped_dims, the greatest speed
abbrev pub check_told : Result Tier0Out Refusal → List ℕ
check_told (Ok o) = 0 ∷ o.trips ∷ o.clamped_dims ∷ bits o.peak_speed ∷ []
check_told (Err r) = refused r

-- the answer for one row from (0,0), and then the projected row
abbrev pub row_of : ℕ → ℕ → List ℕ
row_of x y =
    let row = num x ∷ num y ∷ [] in
    let origin = +0 ∷ +0 ∷ [] in
    let k : Header = record { seq = 0; t_emit = 0; horizon = 1; dim = 2; exec_steps = 1 } in
    check_told (chunk_answer binary64 plane tables_of origin [] row k 2) ++ map bits (chunk_out binary64 plane tables_of origin [] row k origin)

-- ---- window (R3): pushes in the order in which they come, with one window length n

abbrev pub window_after : ℕ → List Bool → Window → Window
window_after n [] w = w
window_after n (hit ∷ l) w = window_after n l (pushed_of w hit (mask_for n))

-- bits and hits, from new
abbrev pub window_of : ℕ → List Bool → List ℕ
window_of n l = let w = window_after n l empty_window in w.bits ∷ hits_in w.bits ∷ []

-- ---- conformal (R8): terms {0,1} and {0}, tau 2, z (2,1)

abbrev pub gate : Calibration
gate = record {
  mask = 3;
  gate = record { n_terms = 2; terms = 3 ∷ 1 ∷ replicate 6 0 };
  tau = num 2!;
}

abbrev pub scores : ℕ → Scores
scores valid = record { f = replicate 12 +0; z = num 2! ∷ one ∷ replicate 10 +0; s = +0; valid = valid; fired = 0 }

abbrev pub verdict_told : Result Bool Refusal → List ℕ
verdict_told (Ok b) = 0 ∷ flag b ∷ []
verdict_told (Err r) = refused r

-- the refusal's number, s, and then whether the aggregated scores trip
abbrev pub gate_of : ℕ → List ℕ
gate_of valid =
    let a = aggregated gate tables_of (scores valid) in
    a.refusal.number ∷ bits a.scores.s ∷ verdict_told (tripped gate tables_of a.scores)
