-- A calm chunk is not touched: what is promised of an accepted call that raises no check which can move a row, when each check is raised, and that ACCEL and JERK move none.
-- `proofs/Calm.calm` is all of it. It is said of every configuration: of a box and a disc, of none to four zones, and under either choice for an absent camera.
use Rattle.envelope.specs.declared.Zone.{Zone}
use Rattle.tier0.specs.Refusals.{passed_with}
use Rattle.std.specs.Prelude.{ℕ, ◌-◌, ◌*◌, ◌<◌, ◌≡◌, Bool, true, false, ◌&&◌, List, [], ◌∷◌, ◌++◌, length, take, drop, Float, if◌then◌else◌, None, Option, Some}
use Rattle.std.specs.Float.{Format}
use Rattle.std.specs.Float.Ieee.{mul, lt, le}
use Rattle.checked.specs.Each.{at, some}
use Rattle.checked.specs.Finite.{+0}
use Rattle.checked.specs.Checked.{pure}
use Rattle.fmath.specs.Norm.{dist}
use Rattle.workspace.specs.declared.WallMasks.{WallMasks}
use Rattle.workspace.specs.Rule.{unmoved}
use Rattle.chunk.specs.declared.Header.{Header}
use Rattle.conformal.specs.Rule.{Tables}
use Rattle.envelope.specs.Slots.{counted, zone_at}
use Rattle.envelope.specs.Promises.{armed_by}
use Rattle.envelope.specs.declared.AbsentCamera.{AbsentCamera}
use Rattle.envelope.specs.declared.FuseConfig.{FuseConfig}
use Rattle.tier0.specs.declared.Checks.{Checks}
use Rattle.tier0.specs.Rule.{WORKSPACE, SPEED, ACCEL, JERK, REACH, CONTACT, arms, box_dims, seen, inside_unseen, slow_zone, moved_inside, leashed, reached}
use Rattle.tier0.specs.Chunk.{raw_row}
use Rattle.tier0.specs.Of.{checks_of, action_answer, action_out, chunk_answer, chunk_out}
use Rattle.tier0.specs.Promises.{raised, row_outside, step_at, bend_at, jolt_at, action_step, leash_armed, leash_now}

-- ---- when each check is raised

-- what is found in the rows of a call, as they came
pub record Found : Type 0 where
  -- some row is outside the workspace
  pub some_outside : Bool
  -- some computed step is longer than this
  pub some_longer_lem : Float → Bool
  -- some second, and some third difference of rows exceeds its limit
  pub some_bend : Bool
  pub some_jolt : Bool
  -- the first row is further from the position than the reach
  pub first_far : Bool

abbrev pub chunk_found : Format → FuseConfig → (p aux rows : List Float) → ℕ → Found
chunk_found f c p aux rows h = record {
  some_outside = some (λ (i : ℕ). row_outside f (checks_of f c) (raw_row rows c.dim i)) h;
  some_longer_lem = λ (x : Float). some (λ (i : ℕ). lt x (step_at f c p aux rows i)) h;
  some_bend = some (λ (i : ℕ). lt (checks_of f c).a_max (bend_at f c p aux rows i)) (h - 1);
  some_jolt = some (λ (i : ℕ). lt (checks_of f c).j_max (jolt_at f c p aux rows i)) (h - 2);
  first_far = lt (checks_of f c).reach_max (dist f (raw_row rows c.dim 0) p (box_dims (checks_of f c))).value;
}

-- the one row of an action has no differences
abbrev pub action_found : Format → FuseConfig → (p aux prev a : List Float) → Found
action_found f c p aux prev a = record {
  some_outside = row_outside f (checks_of f c) a;
  some_longer_lem = λ (x : Float). lt x (action_step f c p aux prev a);
  some_bend = false;
  some_jolt = false;
  first_far = lt (checks_of f c).reach_max (dist f a p (box_dims (checks_of f c))).value;
}

-- the arm counts as inside a zone: by the distance where the zone is seen, else, its camera or the position being too short, by the choice
unfoldable pub counts_inside : Format → AbsentCamera → (p aux : List Float) → Option Zone → Bool
counts_inside f choice p aux None = false
counts_inside f choice p aux (Some z) = if seen p aux z.a0 z.a1 then le (dist f p (at aux z.a0 ∷ at aux z.a1 ∷ []) 2).value z.radius else inside_unseen choice

-- the step that its speed allows
unfoldable pub allowed_step : Format → Float → Option Zone → Float
allowed_step f dt None = +0
allowed_step f dt (Some z) = mul f z.v_max dt

-- each check is raised exactly when it is armed and what it looks for is found: CONTACT, a step longer than is allowed by some zone that the arm counts as inside. Of WORKSPACE and CONTACT
-- `Promises` says it in the rule's own words, too
pub record TripsExactly (f : Format) (s : Checks) (p aux : List Float) (found : Found) (trips : ℕ) : Type 0 where
  pub workspace_exactly : raised WORKSPACE trips ≡ (arms s WORKSPACE && found.some_outside)
  pub speed_exactly : raised SPEED trips ≡ (arms s SPEED && found.some_longer_lem s.step_max)
  pub contact_exactly : raised CONTACT trips ≡ (arms s CONTACT && some (λ (z : ℕ). counts_inside f s.absent_camera p aux (zone_at s.zones z) && found.some_longer_lem (allowed_step f s.dt (zone_at s.zones z))) (counted s.zones))
  pub accel_exactly : raised ACCEL trips ≡ (arms s ACCEL && found.some_bend)
  pub jerk_exactly : raised JERK trips ≡ (arms s JERK && found.some_jolt)
  pub reach_exactly : raised REACH trips ≡ (arms s REACH && found.first_far)
  -- and there is no other bit
  pub no_further_trip : trips < 64

-- ---- calm

-- none of the checks that can move a row is raised; ACCEL and JERK may be
pub record Calm (trips : ℕ) : Type 0 where
  pub workspace_calm : raised WORKSPACE trips ≡ false
  pub speed_calm : raised SPEED trips ≡ false
  pub contact_calm : raised CONTACT trips ≡ false
  pub reach_calm : raised REACH trips ≡ false

-- the output has the rows that came in, bit for bit, and past them what it had; clamped_dims and both masks are 0
pub record ChunkUntouched (f : Format) (c : FuseConfig) (t : Tables) (p aux rows : List Float) (k : Header) (l : List Float) (dims : ℕ) (walls : WallMasks) : Type 0 where
  pub rows_as_they_came : chunk_out f c t p aux rows k l ≡ rows ++ drop (length rows) l
  pub all_rows_there : length rows ≡ k.horizon * c.dim
  pub nothing_clamped : dims ≡ 0
  pub no_wall_moved : walls ≡ unmoved

-- of an action, which may be lent longer than a row is, its first dim numbers
pub record ActionUntouched (f : Format) (c : FuseConfig) (t : Tables) (p aux prev a l : List Float) (dims : ℕ) (walls : WallMasks) : Type 0 where
  pub row_as_it_came : action_out f c t p aux prev a l ≡ take c.dim a ++ drop c.dim l
  pub whole_row_there : length (take c.dim a) ≡ c.dim
  pub row_not_clamped : dims ≡ 0
  pub no_wall_moved : walls ≡ unmoved

-- why no premise speaks of limits that are not armed: each move of projection is made only where its own check is armed
pub record Gated (f : Format) (s : Checks) (p aux : List Float) : Type 0 where
  pub workspace_gate : arms s WORKSPACE ≡ false → (a : List Float) → moved_inside f s a ≡ pure a
  pub reach_gate : arms s REACH ≡ false → (a : List Float) → reached f s p a ≡ pure a
  -- the leash, where SPEED is, or CONTACT is and the arm is inside a zone; it takes the step of those alone
  pub leash_gate : leash_armed f s p aux ≡ false → (prev a : List Float) → leashed f s (slow_zone f s p aux).value prev a ≡ pure a
  pub contact_gate : arms s CONTACT ≡ false → leash_armed f s p aux ≡ arms s SPEED
  pub speed_alone_leashes : (slow_zone f s p aux).value.inside ≡ false → arms s SPEED ≡ true → leash_now f s p aux ≡ s.step_max
  pub zones_alone_leash : arms s SPEED ≡ false → leash_now f s p aux ≡ (slow_zone f s p aux).value.step

-- ---- handed in again, from the same place and with the same message, the rows that came out are calm, with the same answer

pub record ChunkAgain (f : Format) (c : FuseConfig) (t : Tables) (p aux rows : List Float) (k : Header) (l : List Float) (trips : ℕ) (speed : Float) : Type 0 where
  pub same_rows : take (k.horizon * c.dim) (chunk_out f c t p aux rows k l) ≡ rows
  pub answers_as_before : chunk_answer f c t p aux (take (k.horizon * c.dim) (chunk_out f c t p aux rows k l)) k (length l) ≡ passed_with trips 0 speed unmoved

pub record ActionAgain (f : Format) (c : FuseConfig) (t : Tables) (p aux prev a l : List Float) (trips : ℕ) (speed : Float) : Type 0 where
  pub same_row : take c.dim (action_out f c t p aux prev a l) ≡ take c.dim a
  pub answers_as_before : action_answer f c t p aux prev (take c.dim (action_out f c t p aux prev a l)) (length l) ≡ passed_with trips 0 speed unmoved

-- ---- ACCEL and JERK move no row

-- the same checks are armed, save that ACCEL and JERK may be or not
pub record ButDifferences (armed bits : ℕ) : Type 0 where
  pub same_workspace_bit : raised WORKSPACE bits ≡ raised WORKSPACE armed
  pub same_speed_bit : raised SPEED bits ≡ raised SPEED armed
  pub same_reach_bit : raised REACH bits ≡ raised REACH armed
  pub same_contact_bit : raised CONTACT bits ≡ raised CONTACT armed

-- two answers that are alike in the trips of the checks that can move a row, and in all else but the two
pub record SameButDifferences (trips dims : ℕ) (speed : Float) (walls : WallMasks) (other moved : ℕ) (peak : Float) (masks : WallMasks) : Type 0 where
  pub same_trips_but : ButDifferences trips other
  pub same_clamped : moved ≡ dims
  pub same_peak : peak ≡ speed
  pub same_walls_moved : masks ≡ walls

pub record CalmPromised : Type 0 where
  pub chunk_exactly :
      (f : Format) (c : FuseConfig) (t : Tables) (p aux rows : List Float) (k : Header) (room trips dims : ℕ) (speed : Float) (walls : WallMasks)
      → chunk_answer f c t p aux rows k room ≡ passed_with trips dims speed walls → TripsExactly f (checks_of f c) p aux (chunk_found f c p aux rows k.horizon) trips
  pub action_exactly :
      (f : Format) (c : FuseConfig) (t : Tables) (p aux prev a : List Float) (room trips dims : ℕ) (speed : Float) (walls : WallMasks)
      → action_answer f c t p aux prev a room ≡ passed_with trips dims speed walls → TripsExactly f (checks_of f c) p aux (action_found f c p aux prev a) trips
  pub calm_chunk :
      (f : Format) (c : FuseConfig) (t : Tables) (p aux rows : List Float) (k : Header) (l : List Float) (trips dims : ℕ) (speed : Float) (walls : WallMasks)
      → chunk_answer f c t p aux rows k (length l) ≡ passed_with trips dims speed walls → Calm trips → ChunkUntouched f c t p aux rows k l dims walls
  pub calm_action :
      (f : Format) (c : FuseConfig) (t : Tables) (p aux prev a l : List Float) (trips dims : ℕ) (speed : Float) (walls : WallMasks)
      → action_answer f c t p aux prev a (length l) ≡ passed_with trips dims speed walls → Calm trips → ActionUntouched f c t p aux prev a l dims walls
  pub gated : (f : Format) (s : Checks) (p aux : List Float) → Gated f s p aux
  pub calm_chunk_again :
      (f : Format) (c : FuseConfig) (t : Tables) (p aux rows : List Float) (k : Header) (l : List Float) (trips dims : ℕ) (speed : Float) (walls : WallMasks)
      → chunk_answer f c t p aux rows k (length l) ≡ passed_with trips dims speed walls → Calm trips → ChunkAgain f c t p aux rows k l trips speed
  pub calm_action_again :
      (f : Format) (c : FuseConfig) (t : Tables) (p aux prev a l : List Float) (trips dims : ℕ) (speed : Float) (walls : WallMasks)
      → action_answer f c t p aux prev a (length l) ≡ passed_with trips dims speed walls → Calm trips → ActionAgain f c t p aux prev a l trips speed
  -- whichever of the two are armed, an accepted chunk leaves the same output and answers alike but for them
  pub differences_move_nothing :
      (f : Format) (c : FuseConfig) (t : Tables) (bits : ℕ) → ButDifferences c.armed bits → (p aux rows : List Float) (k : Header) (l : List Float) (trips dims : ℕ) (speed : Float) (walls : WallMasks) (other moved : ℕ) (peak : Float) (masks : WallMasks)
      → chunk_answer f c t p aux rows k (length l) ≡ passed_with trips dims speed walls → chunk_answer f (armed_by c bits) t p aux rows k (length l) ≡ passed_with other moved peak masks
      → (chunk_out f (armed_by c bits) t p aux rows k l ≡ chunk_out f c t p aux rows k l) × SameButDifferences trips dims speed walls other moved peak masks
  -- an action has no differences, so it is answered alike, refusals included
  pub no_differences_of_one_row :
      (f : Format) (c : FuseConfig) (t : Tables) (bits : ℕ) → ButDifferences c.armed bits → (p aux prev a l : List Float)
      → (action_answer f (armed_by c bits) t p aux prev a (length l) ≡ action_answer f c t p aux prev a (length l)) × (action_out f (armed_by c bits) t p aux prev a l ≡ action_out f c t p aux prev a l)
