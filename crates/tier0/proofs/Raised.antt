-- When each check of an accepted call is raised: exactly when it is armed and what it looks for is found in the rows as they came. A zone is told by its own numbers: by its distance where it is seen, else by the choice.
use Rattle.envelope.specs.declared.Zone.{Zone}
use Rattle.tier0.specs.Refusals.{passed_with}
use Prim.Native.Nat.{ℕ, ◌-◌}
use mathlib.Core.Path.{◌≡◌, refl, sym, ap, ◌∙◌}
use mathlib.Core.Bool.{Bool, true, false, ◌&&◌, false≢true, and-false}
use mathlib.Core.List.{List, [], ◌∷◌}
use lib.ListN.{replicate}
use lib.Ieee.{Float, Format, lt, le}
use Rattle.std.specs.Prelude.{if◌then◌else◌, None, Option, Some}
use Rattle.checked.specs.Each.{at, some}
use Rattle.checked.specs.Finite.{+0}
use Rattle.checked.proofs.Each.{some_same}
use Rattle.fmath.specs.Norm.{dist}
use Rattle.workspace.specs.declared.WallMasks.{WallMasks}
use Rattle.chunk.specs.declared.Header.{Header}
use Rattle.conformal.specs.Rule.{Tables}
use Rattle.envelope.specs.Slots.{counted, zone_at}
use Rattle.envelope.specs.declared.FuseConfig.{FuseConfig}
use Rattle.tier0.specs.declared.Checks.{Checks}
use Rattle.tier0.specs.declared.Difference.{Difference}
use Rattle.tier0.specs.declared.Difference.TheVariants.{Accel, Jerk}
use Rattle.tier0.specs.Rule.{SPEED, ACCEL, JERK, REACH, CONTACT, arms, box_dims, Slow, seen, inside_unseen, out_of_reach}
use Rattle.tier0.specs.Chunk.{raw_row, start_row, some_longer, some_of, exceeds, large_at, further, trip_of, too_large}
use Rattle.tier0.specs.Promises.{raised, chunk_trips, action_trips, zone_found, inside_at, ZoneTold}
use Rattle.tier0.specs.Of.{checks_of, action_ruling, action_refusal, action_answer, chunk_ruling, chunk_refusal, chunk_answer}
use Rattle.tier0.specs.Calm.{chunk_found, action_found, counts_inside, allowed_step, TripsExactly}
use Rattle.tier0.proofs.Walled as walled
use Rattle.tier0.proofs.Inside.{if_armed, some_armed, chunk_workspace, action_workspace}
use Rattle.tier0.proofs.Leash.{chunk_contact, action_contact}
use Rattle.tier0.proofs.Promises.{chunk_raised, action_raised, chunk_trips_small, action_trips_small, zone_told}

-- a test of a number that matters only inside
where_inside : (b x : Bool) (longer : Float → Bool) (u v : Float) → (x ≡ true → u ≡ v) → ((b && x) && longer u) ≡ (b && (x && longer v))
where_inside true true longer u v h = ap longer (h refl)
where_inside true false longer u v h = refl
where_inside false x longer u v h = refl

module _ (f : Format) (s : Checks) (p aux : List Float) where
  -- a zone by its own numbers
  inside_by_numbers : (k : ℕ) → (zone_found f s p aux k).inside ≡ counts_inside f s.absent_camera p aux (zone_at s.zones k)
  unfolding counts_inside
  inside_by_numbers k = go (zone_at s.zones k) refl
    where
      told : ZoneTold f s p aux k
      told = zone_told f s p aux k

      go : (x : Option Zone) → zone_at s.zones k ≡ x → (zone_found f s p aux k).inside ≡ counts_inside f s.absent_camera p aux x
      go None e = ap (λ (y : Slow). y.inside) (told.empty_place e)
      go (Some z) e = by_sight (seen p aux z.a0 z.a1) refl
        where
          by_sight : (b : Bool) → seen p aux z.a0 z.a1 ≡ b → (zone_found f s p aux k).inside ≡ (if b then le (dist f p (at aux z.a0 ∷ at aux z.a1 ∷ []) 2).value z.radius else inside_unseen s.absent_camera)
          by_sight true h = told.seen_by_distance z.radius z.v_max z.a0 z.a1 e h
          by_sight false h = told.unseen_by_choice z.radius z.v_max z.a0 z.a1 e h

  step_by_numbers : (k : ℕ) → counts_inside f s.absent_camera p aux (zone_at s.zones k) ≡ true → (zone_found f s p aux k).step ≡ allowed_step f s.dt (zone_at s.zones k)
  unfolding counts_inside allowed_step
  step_by_numbers k = go (zone_at s.zones k) refl
    where
      go : (x : Option Zone) → zone_at s.zones k ≡ x → counts_inside f s.absent_camera p aux x ≡ true → (zone_found f s p aux k).step ≡ allowed_step f s.dt x
      go None e h = absurd (false≢true h)
      go (Some z) e h = (zone_told f s p aux k).step_inside z.radius z.v_max z.a0 z.a1 e (inside_by_numbers k ∙ rw e h)

  -- some zone that counts, by the numbers of each
  zones_by_numbers : (longer : Float → Bool) → some (λ (k : ℕ). inside_at f s p aux k && longer (zone_found f s p aux k).step) (counted s.zones) ≡ (arms s CONTACT && some (λ (k : ℕ). counts_inside f s.absent_camera p aux (zone_at s.zones k) && longer (allowed_step f s.dt (zone_at s.zones k))) (counted s.zones))
  zones_by_numbers longer =
      some_same _ (λ (k : ℕ). arms s CONTACT && (counts_inside f s.absent_camera p aux (zone_at s.zones k) && longer (allowed_step f s.dt (zone_at s.zones k)))) (counted s.zones)
      (λ k l. rw (inside_by_numbers k) (where_inside (arms s CONTACT) (counts_inside f s.absent_camera p aux (zone_at s.zones k)) longer (zone_found f s p aux k).step (allowed_step f s.dt (zone_at s.zones k)) (step_by_numbers k)))
      ∙ some_armed (arms s CONTACT) _ (counted s.zones)

-- REACH, of a row
pub far_exactly : (f : Format) (s : Checks) (p a : List Float) → (out_of_reach f s p a).value ≡ (arms s REACH && lt s.reach_max (dist f a p (box_dims s)).value)
unfolding out_of_reach
far_exactly f s p a = if_armed (arms s REACH) _

-- ACCEL and JERK, of a chunk
large_exactly : (f : Format) (s : Checks) (d : Difference) (q rows : List Float) (h : ℕ) → (too_large f s d q rows h).value ≡ (arms s (trip_of d) && some (λ (i : ℕ). (large_at f s d q rows i).value) (h - further d))
unfolding too_large some_of
large_exactly f s d q rows h = if_armed (arms s (trip_of d)) _

module _ (f : Format) (c : FuseConfig) (t : Tables) (p aux rows : List Float) (k : Header) (room trips dims : ℕ) (speed : Float) (walls : WallMasks) (e : chunk_answer f c t p aux rows k room ≡ passed_with trips dims speed walls) where
  chunk_by_rule : trips ≡ chunk_trips f (checks_of f c) p aux rows (replicate 512 +0) k.horizon
  unfolding chunk_answer chunk_ruling
  chunk_by_rule = (walled.from_rule (chunk_refusal f c t p aux rows k room) (chunk_ruling f c p aux rows k.horizon).value trips dims speed walls e).same_trips

  pub trips_of_chunk : TripsExactly f (checks_of f c) p aux (chunk_found f c p aux rows k.horizon) trips
  unfolding checks_of some_longer large_at exceeds
  trips_of_chunk =
      let s = checks_of f c in
      let start = start_row s p rows in
      let by = chunk_raised f s p aux rows (replicate 512 +0) k.horizon in
      record {
        workspace_exactly = chunk_workspace f c t p aux rows k room trips dims speed walls e;
        speed_exactly = ap (raised SPEED) chunk_by_rule ∙ by.speed;
        contact_exactly = chunk_contact f c t p aux rows k room trips dims speed walls e ∙ zones_by_numbers f s p aux (chunk_found f c p aux rows k.horizon).some_longer_lem;
        accel_exactly = ap (raised ACCEL) chunk_by_rule ∙ by.accel ∙ large_exactly f s Accel start rows k.horizon;
        jerk_exactly = ap (raised JERK) chunk_by_rule ∙ by.jerk ∙ large_exactly f s Jerk start rows k.horizon;
        reach_exactly = ap (raised REACH) chunk_by_rule ∙ by.reach ∙ far_exactly f s p (raw_row rows c.dim 0);
        no_further_trip = rw chunk_by_rule (chunk_trips_small f s p aux rows (replicate 512 +0) k.horizon);
      }

module _ (f : Format) (c : FuseConfig) (t : Tables) (p aux prev a : List Float) (room trips dims : ℕ) (speed : Float) (walls : WallMasks) (e : action_answer f c t p aux prev a room ≡ passed_with trips dims speed walls) where
  action_by_rule : trips ≡ action_trips f (checks_of f c) p aux prev a
  unfolding action_answer action_ruling
  action_by_rule = (walled.from_rule (action_refusal f c t p aux prev a room) (action_ruling f c p aux prev a).value trips dims speed walls e).same_trips

  pub trips_of_action : TripsExactly f (checks_of f c) p aux (action_found f c p aux prev a) trips
  unfolding checks_of
  trips_of_action =
      let s = checks_of f c in
      let by = action_raised f s p aux prev a in
      record {
        workspace_exactly = action_workspace f c t p aux prev a room trips dims speed walls e;
        speed_exactly = ap (raised SPEED) action_by_rule ∙ by.speed;
        contact_exactly = action_contact f c t p aux prev a room trips dims speed walls e ∙ zones_by_numbers f s p aux (action_found f c p aux prev a).some_longer_lem;
        accel_exactly = ap (raised ACCEL) action_by_rule ∙ by.accel ∙ sym (and-false (arms s ACCEL));
        jerk_exactly = ap (raised JERK) action_by_rule ∙ by.jerk ∙ sym (and-false (arms s JERK));
        reach_exactly = ap (raised REACH) action_by_rule ∙ by.reach ∙ far_exactly f s p a;
        no_further_trip = rw action_by_rule (action_trips_small f s p aux prev a);
      }
