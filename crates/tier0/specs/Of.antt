-- The rules at the declared structs.
use Rattle.refusal.specs.declared.Refusal.{Refusal}
use Rattle.std.specs.Prelude.{ℕ, ◌*◌, not, ◌&&◌, List, [], ◌∷◌, ◌++◌, eqb, length, replicate, Float, Result}
use Rattle.std.specs.Float.{Format}
use Rattle.refusal.specs.Order.{Judged, width, short, not_finite, computed, ◌when◌, refusal}
use Rattle.fmath.specs.Answer.{some_lent_not_finite}
use Rattle.checked.specs.Finite.{+0}
use Rattle.checked.specs.Checked.{Checked}
use Rattle.checked.specs.Of.{test_from}
use Rattle.chunk.specs.Refusals.{chunk_reasons}
use Rattle.chunk.specs.declared.Header.{Header}
use Rattle.conformal.specs.Rule.{Tables}
use Rattle.envelope.specs.Derive.{derived}
use Rattle.envelope.specs.Refusals.{config_judged}
use Rattle.envelope.specs.declared.Derived.{Derived}
use Rattle.envelope.specs.declared.FuseConfig.{FuseConfig}
use Rattle.tier0.specs.declared.Tier0Out.{Tier0Out}
use Rattle.tier0.specs.declared.Checks.{Checks}
use Rattle.tier0.specs.declared.SlowZone.{SlowZone}
use Rattle.tier0.specs.declared.Clamped.{Clamped}
use Rattle.tier0.specs.declared.JudgedAction.{JudgedAction}
use Rattle.tier0.specs.declared.Stride.{Stride}
use Rattle.tier0.specs.declared.MovedRows.{MovedRows}
use Rattle.tier0.specs.declared.JudgedChunk.{JudgedChunk}
use Rattle.tier0.specs.Rule.{Slow, slower, Projected, Judgement, check_action}
use Rattle.tier0.specs.Chunk.{Run, peak_step, some_longer, some_out_of_workspace, check_chunk}
use Rattle.tier0.specs.Refusals.{too_short, chunk_too_short, answer_at, out_at}

-- what the checks read of a configuration and of the numbers derived from it
abbrev pub checks_from : FuseConfig → Derived → Checks
checks_from c d = record {
  dim = c.dim;
  pos_dim = c.pos_dim;
  armed = c.armed;
  zones = c.zones;
  absent_camera = c.absent_camera;
  clamp = c.clamp;
  dt = c.limits.dt;
  a_max = c.limits.a_max;
  j_max = c.limits.j_max;
  reach_max = c.limits.reach_max;
  inv_dt = d.inv_dt;
  inv_dt2 = d.inv_dt2;
  inv_dt3 = d.inv_dt3;
  step_max = d.step_max;
  shape = c.shape;
  walls = record { lo = d.box_lo; hi = d.box_hi };
}

unfoldable pub checks_of : Format → FuseConfig → Checks
checks_of f c = checks_from c (derived f c)

-- ---- what a private function answers: the rule's value, and whether all that was computed is finite

abbrev pub slow_of : SlowZone → Slow
slow_of z = record { inside = z.inside; step = z.step }

abbrev pub zone_from : Checked Slow → SlowZone
zone_from x = record { inside = x.value.inside; step = x.value.step; sound = x.sound }

-- two findings together
abbrev pub slower_of : SlowZone → SlowZone → SlowZone
slower_of a b = record { inside = (slower (slow_of a) (slow_of b)).inside; step = (slower (slow_of a) (slow_of b)).step; sound = a.sound && b.sound }

abbrev pub clamped_from : Checked Projected → Clamped
clamped_from x = record { at = x.value.rows; mask = x.value.mask; sound = x.sound }

abbrev pub judged_action_from : Checked Judgement → JudgedAction
judged_action_from x = record {
  trips = x.value.trips;
  mask = x.value.after.mask;
  peak = x.value.peak;
  at = x.value.after.rows;
  walls = x.value.walls;
  sound = x.sound;
}

-- the steps of h rows: the greatest, and whether one is too long, too long for the zones, or out of the workspace
abbrev pub steps_from : Format → Checks → Float → List Float → List Float → ℕ → Stride
steps_from f s slow q rows h = record {
  peak = (peak_step f q rows s.dim h).value;
  fast = some_longer f q rows s.dim s.step_max h;
  close = some_longer f q rows s.dim slow h;
  out = test_from (some_out_of_workspace f s rows h);
  sound = (peak_step f q rows s.dim h).sound;
}

abbrev pub run_from : Checked Run → MovedRows
run_from x = record { mask = x.value.mask; sound = x.sound }

abbrev pub moved_rows_from : Checked Projected → MovedRows
moved_rows_from x = record { mask = x.value.mask; sound = x.sound }

abbrev pub judged_chunk_from : Checked Judgement → JudgedChunk
judged_chunk_from x = record {
  trips = x.value.trips;
  mask = x.value.after.mask;
  peak = x.value.peak;
  walls = x.value.walls;
  sound = x.sound;
}

-- ---- check_action

module _ (c : FuseConfig) (p aux prev a : List Float) where
  -- 11 and 12, where the output has so much room
  abbrev pub lent_to_action : ℕ → List Judged → List Judged
  lent_to_action room l =
      (short when too_short c.dim c.pos_dim (length p) (length prev) (length a) room)
      ∷ (not_finite when some_lent_not_finite (p ∷ aux ∷ prev ∷ a ∷ [])) ∷ l

module _ (f : Format) (c : FuseConfig) (p aux prev a : List Float) where
  unfoldable pub action_ruling : Checked Judgement
  action_ruling = check_action f (checks_of f c) p aux prev a

module _ (f : Format) (c : FuseConfig) (t : Tables) (p aux prev a : List Float) where
  abbrev ruling : Checked Judgement
  ruling = action_ruling f c p aux prev a

  -- the number of the refusal, 0 where there is none
  unfoldable pub action_refusal : ℕ → ℕ
  action_refusal room = refusal (config_judged f c t ++ lent_to_action c p aux prev a room ((computed when not ruling.sound) ∷ []))

  unfoldable pub action_answer : ℕ → Result Tier0Out Refusal
  action_answer room = answer_at (action_refusal room) ruling.value

  unfoldable pub action_out : List Float → List Float
  action_out l = out_at (action_refusal (length l)) ruling.value c.dim l

-- ---- check_chunk

module _ (c : FuseConfig) (p aux rows : List Float) (k : Header) where
  -- 10, 11 and 12, where the output has so much room
  abbrev pub lent_to_chunk : ℕ → List Judged → List Judged
  lent_to_chunk room l =
      (width when not (eqb k.dim c.dim))
      ∷ (short when chunk_too_short c.pos_dim (length p) (k.horizon * k.dim) room)
      ∷ (not_finite when some_lent_not_finite (p ∷ aux ∷ rows ∷ [])) ∷ l

module _ (f : Format) (c : FuseConfig) (p aux rows : List Float) (h : ℕ) where
  unfoldable pub chunk_ruling : Checked Judgement
  chunk_ruling = check_chunk f (checks_of f c) p aux rows (replicate 512 +0) h

module _ (f : Format) (c : FuseConfig) (t : Tables) (p aux rows : List Float) (k : Header) where
  abbrev ruled : Checked Judgement
  ruled = chunk_ruling f c p aux rows k.horizon

  -- the number of the refusal, 0 where there is none
  unfoldable pub chunk_refusal : ℕ → ℕ
  chunk_refusal room = refusal (config_judged f c t ++ (chunk_reasons k (length rows) ++ lent_to_chunk c p aux rows k room ((computed when not ruled.sound) ∷ [])))

  unfoldable pub chunk_answer : ℕ → Result Tier0Out Refusal
  chunk_answer room = answer_at (chunk_refusal room) ruled.value

  unfoldable pub chunk_out : List Float → List Float
  chunk_out l = out_at (chunk_refusal (length l)) ruled.value (k.horizon * c.dim) l
