-- Two calls that read alike answer alike: they may differ in whether CONTACT is armed, in the zones past their count, in the choice for an absent camera, in the position
-- past the shared axes and in the camera's message, where the slow zones come out the same. Where ACCEL or JERK is armed in one alone, an action is answered alike still, and of a chunk
-- all but those two.
use Prim.Native.Nat.{ℕ, zero, suc, ◌<◌}
use mathlib.Core.Path.{◌≡◌, refl, sym, ◌∙◌}
use mathlib.Core.Bool.{Bool, true, false, ◌||◌}
use mathlib.Core.List.{List}
use lib.Dec.{eqb, ltb}
use lib.ListN.{length, replicate}
use lib.Ieee.{Float, Format}
use Rattle.checked.specs.Each.{at}
use Rattle.checked.specs.Finite.{+0}
use Rattle.checked.specs.Row.{padded}
use Rattle.checked.specs.Checked.{pure}
use Rattle.std.specs.Prelude.{if◌then◌else◌}
use Rattle.checked.proofs.Each.{over_same}
use Rattle.fmath.specs.Answer.{some_not_finite, some_from, some_lent_not_finite}
use Rattle.fmath.proofs.Lengths.{dist_same}
use Rattle.pull.proofs.Steps.{pulled_same}
use Rattle.chunk.specs.declared.Header.{Header}
use Rattle.conformal.specs.Rule.{Tables}
use Rattle.envelope.specs.Slots.{counted, zone_at}
use Rattle.envelope.specs.Promises.{altered, SameZones}
use Rattle.envelope.specs.Refusals.{sizes_ok, zones_ok, numbers_from, steps_ok, zones_fit}
use Rattle.envelope.specs.declared.Zones.{Zones}
use Rattle.envelope.proofs.Promises.{same_told}
use Rattle.envelope.specs.declared.AbsentCamera.{AbsentCamera}
use Rattle.envelope.specs.declared.ClampMode.{ClampMode}
use Rattle.envelope.specs.declared.ClampMode.TheVariants.{Off, Project}
use Rattle.envelope.specs.declared.FuseConfig.{FuseConfig}
use Rattle.tier0.specs.declared.Checks.{Checks}
use Rattle.tier0.specs.declared.Difference.{Difference}
use Rattle.tier0.specs.declared.Difference.TheVariants.{Accel, Jerk}
use Rattle.tier0.specs.Rule.{WORKSPACE, SPEED, ACCEL, JERK, REACH, CONTACT, arms, box_dims, Slow, clear, zone_in, slowest, slow_zone, out_of_workspace, out_of_reach, moved_inside, leashed, reached, moves, project, projection, moves_inside, row_masks, Judgement, check_action}
use Rattle.tier0.specs.Chunk.{raw_row, start_row, some_out_of_workspace, some_of, large_at, too_large, next_row, run_rows, projected_rows, rows_masks, check_chunk}
use Rattle.tier0.specs.Refusals.{too_short, chunk_too_short}
use Rattle.tier0.specs.Of.{checks_of, action_ruling, action_refusal, action_answer, action_out, chunk_ruling, chunk_refusal, chunk_answer, chunk_out}
use Rattle.tier0.specs.Promises.{raised, SameChecks}
use Rattle.tier0.specs.Calm.{ButDifferences}
use Rattle.tier0.proofs.Slowest.{slowest_alike}
use Rattle.tier0.proofs.Promises.{chunk_raised}

-- the checks that can move a row are armed alike, but for CONTACT
pub record MovesAlike (armed bits : ℕ) : Type 0 where
  pub workspace : raised WORKSPACE bits ≡ raised WORKSPACE armed
  pub speed : raised SPEED bits ≡ raised SPEED armed
  pub reach : raised REACH bits ≡ raised REACH armed

-- and so are those of the differences
pub record DifferencesAlike (armed bits : ℕ) : Type 0 where
  pub accel : raised ACCEL bits ≡ raised ACCEL armed
  pub jerk : raised JERK bits ≡ raised JERK armed

pub moves_as_they_are : (armed : ℕ) → MovesAlike armed armed
moves_as_they_are armed = record { workspace = refl; speed = refl; reach = refl }

pub differences_as_they_are : (armed : ℕ) → DifferencesAlike armed armed
differences_as_they_are armed = record { accel = refl; jerk = refl }

pub zones_as_they_are : (z : Zones) → SameZones z z
zones_as_they_are z = record { same_count = refl; same_places = λ k l. refl }

-- two judgements of a chunk that differ at most in whether ACCEL and JERK are raised
pub record JudgedAlike (x y : Judgement) : Type 0 where
  pub judged_after : x.after ≡ y.after
  pub judged_peak : x.peak ≡ y.peak
  pub judged_walls : x.walls ≡ y.walls
  pub judged_trips : ButDifferences y.trips x.trips

-- two calls of which each zone that counts says the same
pub zones_same : (f : Format) (s d : Checks) (p aux q cam : List Float) → arms d CONTACT ≡ arms s CONTACT → counted d.zones ≡ counted s.zones
    → (arms s CONTACT ≡ true → (k : ℕ) → k < counted s.zones → zone_in f d.dt d.absent_camera (zone_at d.zones k) q cam ≡ zone_in f s.dt s.absent_camera (zone_at s.zones k) p aux)
    → slow_zone f d q cam ≡ slow_zone f s p aux
unfolding slow_zone
zones_same f s d p aux q cam armed count each = rw (armed, count) (go (arms s CONTACT) refl)
  where
    go : (b : Bool) → arms s CONTACT ≡ b → (if b then slowest f d.dt d.absent_camera (zone_at d.zones) q cam (counted s.zones) else pure clear) ≡ (if b then slowest f s.dt s.absent_camera (zone_at s.zones) p aux (counted s.zones) else pure clear)
    go true e = slowest_alike f s.dt d.dt s.absent_camera d.absent_camera (zone_at s.zones) (zone_at d.zones) p aux q cam (counted s.zones) (each e)
    go false e = refl

-- the checks with other bits armed, other zones and another choice
abbrev rearmed : Checks → ℕ → Zones → AbsentCamera → Checks
rearmed s bits w choice = record {
  dim = s.dim;
  pos_dim = s.pos_dim;
  armed = bits;
  zones = w;
  absent_camera = choice;
  clamp = s.clamp;
  dt = s.dt;
  a_max = s.a_max;
  j_max = s.j_max;
  reach_max = s.reach_max;
  inv_dt = s.inv_dt;
  inv_dt2 = s.inv_dt2;
  inv_dt3 = s.inv_dt3;
  step_max = s.step_max;
  shape = s.shape;
  walls = s.walls;
}

-- ---- the rules

module _ (f : Format) (s : Checks) (bits : ℕ) (w : Zones) (choice : AbsentCamera) (alike : MovesAlike s.armed bits) where
  abbrev other : Checks
  other = rearmed s bits w choice

  workspace_alike : arms other WORKSPACE ≡ arms s WORKSPACE
  unfolding arms
  workspace_alike = alike.workspace

  speed_alike : arms other SPEED ≡ arms s SPEED
  unfolding arms
  speed_alike = alike.speed

  accel_alike : DifferencesAlike s.armed bits → arms other ACCEL ≡ arms s ACCEL
  unfolding arms
  accel_alike so = so.accel

  jerk_alike : DifferencesAlike s.armed bits → arms other JERK ≡ arms s JERK
  unfolding arms
  jerk_alike so = so.jerk

  reach_alike : arms other REACH ≡ arms s REACH
  unfolding arms
  reach_alike = alike.reach

  same_outside : (a : List Float) → out_of_workspace f other a ≡ out_of_workspace f s a
  unfolding out_of_workspace
  same_outside a = rw workspace_alike

  same_outside_rows : (rows : List Float) (h : ℕ) → some_out_of_workspace f other rows h ≡ some_out_of_workspace f s rows h
  unfolding some_out_of_workspace
  same_outside_rows rows h = λ i. some_of (λ (k : ℕ). same_outside (raw_row rows s.dim k) i) h

  same_large : DifferencesAlike s.armed bits → (d : Difference) (q rows : List Float) (h : ℕ) → too_large f other d q rows h ≡ too_large f s d q rows h
  unfolding too_large large_at
  same_large so Accel q rows h = rw (accel_alike so)
  same_large so Jerk q rows h = rw (jerk_alike so)

  same_mode : (m : ClampMode) → moves_inside other m ≡ moves_inside s m
  unfolding moves_inside
  same_mode Off = refl
  same_mode Project = workspace_alike

  same_row_masks : (a : List Float) → row_masks other a ≡ row_masks s a
  unfolding row_masks
  same_row_masks a = rw (same_mode s.clamp)

  same_rows_masks : (rows : List Float) (h : ℕ) → rows_masks other rows h ≡ rows_masks s rows h
  unfolding rows_masks
  same_rows_masks rows h = rw (same_mode s.clamp)

  same_moved_inside : (a : List Float) → moved_inside f other a ≡ moved_inside f s a
  unfolding moved_inside
  same_moved_inside a = rw workspace_alike

  same_leashed : (z : Slow) (prev a : List Float) → leashed f other z prev a ≡ leashed f s z prev a
  unfolding leashed
  same_leashed z prev a = rw speed_alike

  module _ (p q : List Float) (near : (j : ℕ) → j < box_dims s → at q j ≡ at p j) where
    same_reach : (a : List Float) → out_of_reach f other q a ≡ out_of_reach f s p a
    unfolding out_of_reach
    same_reach a = rw (reach_alike, dist_same f a q a p (box_dims s) (λ j l. refl) near)

    same_reached : (a : List Float) → reached f other q a ≡ reached f s p a
    unfolding reached
    same_reached a = rw (reach_alike, pulled_same f s.reach_max q p (box_dims s) a near)

    same_start : (rows : List Float) → start_row other q rows ≡ start_row s p rows
    unfolding start_row
    same_start rows = over_same (at q) (at p) (raw_row rows s.dim 0) (box_dims s) near

    module _ (z : Slow) where
      same-moves : (first : Bool) (prev a : List Float) → moves f other z q first prev a ≡ moves f s z p first prev a
      unfolding moves
      same-moves first prev a =
          let b = (moved_inside f s a).value in
          rw (same_moved_inside a, same_leashed z prev b, same_reached (leashed f s z prev b).value)

      same-projection : (m : ClampMode) (prev a : List Float) → projection f other m z q prev a ≡ projection f s m z p prev a
      unfolding projection project
      same-projection Off prev a = refl
      same-projection Project prev a = rw (same-moves true prev a)

      same_run : (rows start l : List Float) (h : ℕ) → run_rows f other z q rows start l h ≡ run_rows f s z p rows start l h
      unfolding run_rows next_row
      same_run rows start l zero = refl
      same_run rows start l (suc i) = rw (same_run rows start l i, same-moves (eqb i 0) (run_rows f s z p rows start l i).value.last (raw_row rows s.dim i))

      same-projected : (m : ClampMode) (rows start l : List Float) (h : ℕ) → projected_rows f other m z q rows start l h ≡ projected_rows f s m z p rows start l h
      unfolding projected_rows
      same-projected Off rows start l h = refl
      same-projected Project rows start l h = rw (same_run rows start l h)

    module _ (aux cam : List Float) (zone : slow_zone f other q cam ≡ slow_zone f s p aux) where
      same-action : (prev a : List Float) → check_action f other q cam prev a ≡ check_action f s p aux prev a
      unfolding check_action
      same-action prev a =
          rw (
            zone,
            speed_alike,
            same_outside a,
            same_reach a,
            same-projection (slow_zone f s p aux).value s.clamp prev (padded a s.dim),
            same_row_masks a,
          )

      same-chunk : DifferencesAlike s.armed bits → (rows l : List Float) (h : ℕ) → check_chunk f other q cam rows l h ≡ check_chunk f s p aux rows l h
      unfolding check_chunk
      same-chunk so rows l h =
          let start = start_row s p rows in
          rw (
            same_start rows,
            zone,
            speed_alike,
            same_outside_rows rows h,
            same_large so Accel start rows h,
            same_large so Jerk start rows h,
            same_reach (raw_row rows s.dim 0),
            same-projected (slow_zone f s p aux).value s.clamp rows start l h,
            same_rows_masks rows h,
          )

      -- of a chunk, all but its differences
      same_judged : (rows l : List Float) (h : ℕ) → JudgedAlike (check_chunk f other q cam rows l h).value (check_chunk f s p aux rows l h).value
      unfolding check_chunk
      same_judged rows l h =
          let start = start_row s p rows in
          record {
            judged_after = rw (same_start rows, zone, same-projected (slow_zone f s p aux).value s.clamp rows start l h);
            judged_peak = rw (same_start rows);
            judged_walls = same_rows_masks rows h;
            judged_trips = record {
              same_workspace_bit = (chunk_raised f other q cam rows l h).workspace ∙ rw (same_outside_rows rows h) (sym (chunk_raised f s p aux rows l h).workspace);
              same_speed_bit = (chunk_raised f other q cam rows l h).speed ∙ rw (speed_alike, same_start rows) (sym (chunk_raised f s p aux rows l h).speed);
              same_reach_bit = (chunk_raised f other q cam rows l h).reach ∙ rw (same_reach (raw_row rows s.dim 0)) (sym (chunk_raised f s p aux rows l h).reach);
              same_contact_bit = (chunk_raised f other q cam rows l h).contact ∙ rw (zone, same_start rows) (sym (chunk_raised f s p aux rows l h).contact);
            };
          }

-- ---- the entries

module _ (f : Format) (t : Tables) (c : FuseConfig) (bits : ℕ) (w : Zones) (choice : AbsentCamera) where
  -- the configuration of the other call
  abbrev changed : FuseConfig
  changed = altered c c.limits c.shape w choice c.norm c.walls c.brake c.gripper bits c.calib c.horizon_ticks

  checks_rearmed : checks_of f changed ≡ rearmed (checks_of f c) bits w choice
  unfolding checks_of
  checks_rearmed = refl

  module _ (alike : MovesAlike c.armed bits) (same : SameZones c.zones w) (p aux q cam : List Float) (near : (j : ℕ) → j < box_dims (checks_of f c) → at q j ≡ at p j)
      (short : ltb (length q) c.pos_dim ≡ ltb (length p) c.pos_dim) (finite : (some_not_finite q || some_not_finite cam) ≡ (some_not_finite p || some_not_finite aux))
      (zone : slow_zone f (checks_of f changed) q cam ≡ slow_zone f (checks_of f c) p aux) where
    moves_alike : MovesAlike (checks_of f c).armed bits
    unfolding checks_of
    moves_alike = alike

    zone_alike : slow_zone f (rearmed (checks_of f c) bits w choice) q cam ≡ slow_zone f (checks_of f c) p aux
    zone_alike = rw checks_rearmed at zone

    zones_alike : (zones_ok w ≡ zones_ok c.zones) × (zones_fit w c.aux_count ≡ zones_fit c.zones c.aux_count)
    zones_alike = same_told c.zones c.aux_count w same

    action_ruled : (prev a : List Float) → action_ruling f changed q cam prev a ≡ action_ruling f c p aux prev a
    unfolding action_ruling
    action_ruled prev a = rw checks_rearmed (same-action f (checks_of f c) bits w choice moves_alike p q near aux cam zone_alike prev a)

    action_refused : (prev a : List Float) (room : ℕ) → action_refusal f changed t q cam prev a room ≡ action_refusal f c t p aux prev a room
    unfolding action_refusal sizes_ok numbers_from steps_ok too_short some_lent_not_finite some_from
    action_refused prev a room = rw (action_ruled prev a, zones_alike.0, zones_alike.1, same.same_count, short, finite)

    pub same_action_answer : (prev a : List Float) (room : ℕ) → action_answer f changed t q cam prev a room ≡ action_answer f c t p aux prev a room
    unfolding action_answer
    same_action_answer prev a room = rw (action_refused prev a room, action_ruled prev a)

    pub same_action_row : (prev a l : List Float) → action_out f changed t q cam prev a l ≡ action_out f c t p aux prev a l
    unfolding action_out
    same_action_row prev a l = rw (action_refused prev a (length l), action_ruled prev a)

    pub chunk_judged : (rows : List Float) (h : ℕ) → JudgedAlike (chunk_ruling f changed q cam rows h).value (chunk_ruling f c p aux rows h).value
    unfolding chunk_ruling
    chunk_judged rows h = rw checks_rearmed (same_judged f (checks_of f c) bits w choice moves_alike p q near aux cam zone_alike rows (replicate 512 +0) h)

    module _ (so : DifferencesAlike c.armed bits) where
      differences-alike : DifferencesAlike (checks_of f c).armed bits
      unfolding checks_of
      differences-alike = so

      chunk_ruled : (rows : List Float) (k : Header) → chunk_ruling f changed q cam rows k.horizon ≡ chunk_ruling f c p aux rows k.horizon
      unfolding chunk_ruling
      chunk_ruled rows k = rw checks_rearmed (same-chunk f (checks_of f c) bits w choice moves_alike p q near aux cam zone_alike differences-alike rows (replicate 512 +0) k.horizon)

      chunk-refused : (rows : List Float) (k : Header) (room : ℕ) → chunk_refusal f changed t q cam rows k room ≡ chunk_refusal f c t p aux rows k room
      unfolding chunk_refusal sizes_ok numbers_from steps_ok chunk_too_short some_lent_not_finite some_from
      chunk-refused rows k room = rw (chunk_ruled rows k, zones_alike.0, zones_alike.1, same.same_count, short, finite)

      pub same-checks : SameChecks f t changed q cam c p aux
      unfolding chunk_answer chunk_out
      same-checks = record {
        same_chunk_answer = λ rows k room. rw (chunk-refused rows k room, chunk_ruled rows k);
        same_chunk_rows = λ rows k l. rw (chunk-refused rows k (length l), chunk_ruled rows k);
        same_action_answer = same_action_answer;
        same_action_row = same_action_row;
      }
