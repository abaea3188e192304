-- What the slow zones do to the entries' answers: without one, or where those that are not seen count as none, they are those with CONTACT unarmed; where they count
-- as slow they are those of an arm that is seen inside them; elsewhere the choice changes nothing, and what stands past the count never does.
use Rattle.envelope.specs.declared.Zone.{Zone}
use Prim.Native.Nat.{ℕ, ◌-◌, ◌/◌, ◌%◌, ◌<◌}
use mathlib.Core.Path.{◌≡◌, refl, sym, ap, ◌∙◌}
use mathlib.Core.Bool.{Bool, true, false, and-true, and-false}
use mathlib.Core.Logic.{⊎_elim}
use mathlib.Core.List.{List, [], ◌∷◌}
use native.Mathlib.Omega.{arith}
use borrow.Author.Tests.{eqb-true, le-leb, lt-leb, lt-ltb, le-ltb}
use lib.Dec.{eqb, leb, ltb}
use lib.ListN.{length}
use lib.Ieee.{Float, Format, mul}
use Rattle.std.specs.Prelude.{if◌then◌else◌, None, Option, Some}
use Rattle.checked.specs.Each.{at}
use Rattle.checked.specs.Finite.{finite}
use Rattle.checked.proofs.Each.{◌&&≡◌}
use Rattle.checked.specs.Checked.{Checked, pure}
use Rattle.conformal.specs.Rule.{Tables}
use Rattle.fmath.proofs.Lengths.{dist_same}
use Rattle.envelope.specs.Slots.{counted, zone_at, zone_with}
use Rattle.envelope.specs.Promises.{absent_by, zoned_by, SameZones}
use Rattle.envelope.specs.declared.Zones.{Zones}
use Rattle.envelope.specs.declared.AbsentCamera.{AbsentCamera}
use Rattle.envelope.specs.declared.AbsentCamera.TheVariants as absent
use Rattle.envelope.specs.declared.FuseConfig.{FuseConfig}
use Rattle.tier0.specs.Rule.{WORKSPACE, SPEED, ACCEL, JERK, REACH, CONTACT, arms, weight, box_dims, Slow, clear, seen, inside_seen, inside_zone, zone_step, zone_in, slow_zone}
use Rattle.tier0.specs.Of.{checks_of}
use Rattle.tier0.specs.Promises.{raised, without_contact, contact_unarmed, NoZones, zone_if_seen, NoZoneAsRust, UnseenIsInside, UnseenAsEmpty, SeenExactly, SameChecks, AsUnarmed, ZonesSeen, ZonesUnseen, SeenInside, SeenAlike, Stands, ZonesStand, StandsAlike, Promised}
use Rattle.tier0.proofs.Slowest.{slowest_alike}
use Rattle.tier0.proofs.Promises.{chunk_raised, action_raised, walls_touched, by_place, empty_place, none_clear, no_contact, outside_radius, one_zone, zone_told, each_asked, no_zone_no_leash}
use Rattle.tier0.proofs.Walled.{chunk_walls, action_walls, chunk_moved, action_moved}
use Rattle.tier0.proofs.Within.{edge_inside, chunk_workspace_touched, chunk_edge_touched, chunk_speed_touched, chunk_contact_touched, chunk_accel_touched, chunk_jerk_touched, chunk_reach_touched, chunk_touched, action_workspace_touched, action_edge_touched, action_speed_touched, action_contact_touched, action_reach_touched, action_touched}
use Rattle.tier0.proofs.Alike.{MovesAlike, DifferencesAlike, moves_as_they_are, differences_as_they_are, zones_as_they_are, zones_same, same-checks}
use Rattle.tier0.proofs.Inside.{stays_inside, pulls_first, unarmed_nothing, at_box, margin_unread, chunk_workspace, action_workspace, chunk_distances, action_distances, chunk_inside_stays, action_inside_stays}
use Rattle.tier0.proofs.Calm.{unarmed_action, unarmed_chunk}
use Rattle.tier0.proofs.Leash.{chunk_contact, action_contact, chunk_leash, action_leash, more_at_the_end, chunk_more_zones, action_more_zones}

-- ---- a zone that is seen

module _ (p aux : List Float) (i j : ℕ) where
  seen_by_lengths : SeenExactly p aux i j
  seen_by_lengths = record {
    long_enough = λ two first second. rw (le-leb 2 (length p) two, lt-ltb i (length aux) first, lt-ltb j (length aux) second);
    position_short = λ one. rw (lt-leb 2 (length p) one);
    first_channel_missing = λ first. rw (le-ltb i (length aux) first, and-false (leb 2 (length p)));
    second_channel_missing = λ second. rw (le-ltb j (length aux) second, and-false (ltb i (length aux)), and-false (leb 2 (length p)));
  }

-- ---- one zone, by how it is seen and by the choice

module _ (f : Format) (dt : Float) (choice : AbsentCamera) (z : Option Zone) (radius speed : Float) (i j : ℕ) (is : z ≡ zone_with i j radius speed) where
  unseen_slow : (p aux : List Float) → choice ≡ absent.Slow → seen p aux i j ≡ false → zone_in f dt choice z p aux ≡ zone_step f dt speed
  unfolding zone_in inside_zone
  unseen_slow p aux new away = rw (is, away, new)

  unseen_none : (p aux : List Float) → choice ≡ absent.NoZone → seen p aux i j ≡ false → zone_in f dt choice z p aux ≡ pure clear
  unfolding zone_in inside_zone
  unseen_none p aux old away = rw (is, away, old)

  seen_within : (p aux : List Float) → SeenInside f radius i j p aux → zone_in f dt choice z p aux ≡ zone_step f dt speed
  unfolding zone_in inside_zone inside_seen
  seen_within p aux inside = rw (is, inside.is_seen, inside.within, inside.distance_finite)

  seen_either : (p aux : List Float) (other : AbsentCamera) → seen p aux i j ≡ true → zone_in f dt other z p aux ≡ zone_in f dt choice z p aux
  unfolding zone_in inside_zone
  seen_either p aux other here = rw (is, here)

  module _ (p aux q cam : List Float) where
    seen_alike : SeenAlike i j p aux q cam → zone_in f dt choice z q cam ≡ zone_in f dt choice z p aux
    unfolding zone_in inside_zone inside_seen
    seen_alike alike =
        let centre : List Float = at aux i ∷ at aux j ∷ [] in
        rw (is, alike.here, alike.there, alike.same_first, alike.same_second, dist_same f q centre p centre 2 alike.same_place (λ k l. refl))

    unseen_both : seen p aux i j ≡ false → seen q cam i j ≡ false → zone_in f dt choice z q cam ≡ zone_in f dt choice z p aux
    unfolding zone_in inside_zone
    unseen_both here there = rw (is, here, there)

    -- under Slow a zone that stands so in two calls says the same
    stands_alike : choice ≡ absent.Slow → Stands f radius i j p aux q cam → zone_in f dt choice z q cam ≡ zone_in f dt choice z p aux
    stands_alike new = ⊎_elim (λ x. seen_within q cam x.1 ∙ sym (unseen_slow p aux new x.0)) (⊎_elim (λ x. unseen_both x.0 x.1) seen_alike)

-- where a zone that is not seen is none, its rule reads no choice
if_seen : (f : Format) (dt : Float) (choice : AbsentCamera) (z : Option Zone) (p aux : List Float) → choice ≡ absent.NoZone → zone_in f dt choice z p aux ≡ zone_if_seen f dt z p aux
unfolding zone_in inside_zone inside_seen zone_if_seen
if_seen f dt choice None p aux old = refl
if_seen f dt choice (Some z) p aux old = by_sight (seen p aux z.a0 z.a1) refl
  where
    by_sight : (b : Bool) → seen p aux z.a0 z.a1 ≡ b → zone_in f dt choice (Some z) p aux ≡ zone_if_seen f dt (Some z) p aux
    by_sight true e = rw (e, and-true)
    by_sight false e = rw (e, old)

no_zone_as_rust : NoZoneAsRust
no_zone_as_rust f s p aux one old =
    one_zone f s p aux one
    ∙ ap (λ (x : Checked Slow). if arms s CONTACT then x else pure clear) (if_seen f s.dt s.absent_camera (zone_at s.zones 0) p aux old)

pub unseen_is_inside : UnseenIsInside
unfolding arms zone_step
unseen_is_inside f s k p aux radius speed i j new at-zone =
    let here = unseen_slow f s.dt s.absent_camera (zone_at s.zones k) radius speed i j at-zone.configured p aux new at-zone.unseen in
    record {
      counts_as_inside = at-zone.contact_armed &&≡ ap (λ (x : Checked Slow). x.value.inside) here;
      its_step = ap (λ (x : Checked Slow). x.value.step) here;
      step_alone = ap (λ (x : Checked Slow). x.sound) here ∙ and-true (finite (mul f speed s.dt));
    }

-- ---- all zones

unseen_as_empty : UnseenAsEmpty
unseen_as_empty f dt p aux z w each =
    slowest_alike f dt dt absent.NoZone absent.NoZone (zone_at z) (zone_at w) p aux p aux (counted z)
    (λ k l. ⊎_elim (λ e. ap (λ (x : Option Zone). zone_in f dt absent.NoZone x p aux) e) (λ x. ap (λ (y : Option Zone). zone_in f dt absent.NoZone y p aux) x.0 ∙ empty_place f dt absent.NoZone p aux None refl ∙ sym (says_nothing (zone_at z k) x.1)) (each k l))
  where
    says_nothing : (x : Option Zone) → ((radius speed : Float) (i j : ℕ) → x ≡ zone_with i j radius speed → seen p aux i j ≡ false) → zone_in f dt absent.NoZone x p aux ≡ pure clear
    says_nothing x away = by_place (λ (y : Option Zone). zone_in f dt absent.NoZone y p aux ≡ pure clear) x (empty_place f dt absent.NoZone p aux None refl) (λ radius speed i j e. unseen_none f dt absent.NoZone (zone_with i j radius speed) radius speed i j refl p aux refl (away radius speed i j e))

-- ---- with CONTACT unarmed

keeps : (a w : ℕ) → (a / 32 % 2 ≡ 1 → (a - 32) / w % 2 ≡ a / w % 2) → raised w (without_contact a) ≡ raised w a
keeps a w h = go (raised CONTACT a) refl
  where
    go : (b : Bool) → raised CONTACT a ≡ b → raised w (a - weight b CONTACT) ≡ raised w a
    go true e = ap (λ (n : ℕ). eqb n 1) (h (eqb-true (a / 32 % 2) 1 e))
    go false e = ap (raised w) (let z : a - 0 ≡ a = omega arith in z)

but_contact : (a : ℕ) → MovesAlike a (without_contact a)
but_contact a = record { workspace = keeps a WORKSPACE (λ e. omega arith); speed = keeps a SPEED (λ e. omega arith); reach = keeps a REACH (λ e. omega arith) }

differences_stay : (a : ℕ) → DifferencesAlike a (without_contact a)
differences_stay a = record { accel = keeps a ACCEL (λ e. omega arith); jerk = keeps a JERK (λ e. omega arith) }

no_contact_bit : (a : ℕ) → raised CONTACT (without_contact a) ≡ false
no_contact_bit a = go (raised CONTACT a) refl
  where
    go : (b : Bool) → raised CONTACT a ≡ b → raised CONTACT (a - weight b CONTACT) ≡ false
    go true e = let is = eqb-true (a / 32 % 2) 1 e in let none : (a - 32) / 32 % 2 ≡ 0 = omega arith in rw none
    go false e = let z : a - 0 ≡ a = omega arith in rw z e

module _ (f : Format) (t : Tables) (c : FuseConfig) (p aux : List Float) where
  unarmed_is_none : slow_zone f (checks_of f (contact_unarmed c)) p aux ≡ pure clear
  unfolding slow_zone checks_of arms
  unarmed_is_none = rw (no_contact_bit c.armed)

  as_unarmed : slow_zone f (checks_of f c) p aux ≡ pure clear → AsUnarmed f t c p aux
  as_unarmed none =
      same-checks f t c (without_contact c.armed) c.zones c.absent_camera (but_contact c.armed) (zones_as_they_are c.zones) p aux p aux (λ j l. refl) refl refl (unarmed_is_none ∙ sym none) (differences_stay c.armed)

pub no_contact_as_unarmed : (f : Format) (t : Tables) (c : FuseConfig) (choice : AbsentCamera) (p aux : List Float) → NoZones c.zones → AsUnarmed f t (absent_by c choice) p aux
unfolding checks_of
no_contact_as_unarmed f t c choice p aux none = as_unarmed f t (absent_by c choice) p aux (no_contact f (checks_of f (absent_by c choice)) p aux none)

-- ---- where zones are not seen

module _ (f : Format) (t : Tables) (c : FuseConfig) (p aux : List Float) (old : c.absent_camera ≡ absent.NoZone) (away : ZonesUnseen c p aux) where
  none_seen : slow_zone f (checks_of f c) p aux ≡ pure clear
  unfolding checks_of arms
  none_seen =
      none_clear f (checks_of f c) p aux
      (λ armed k l. by_place (λ (z : Option Zone). zone_in f c.limits.dt c.absent_camera z p aux ≡ pure clear) (zone_at c.zones k)
      (empty_place f c.limits.dt c.absent_camera p aux None refl)
      (λ radius speed i j e. unseen_none f c.limits.dt c.absent_camera (zone_with i j radius speed) radius speed i j refl p aux old (away armed k l radius speed i j e)))

  pub unseen_as_unarmed : AsUnarmed f t c p aux
  unseen_as_unarmed = as_unarmed f t c p aux none_seen

module _ (f : Format) (t : Tables) (c : FuseConfig) (p aux q cam : List Float) (new : c.absent_camera ≡ absent.Slow) (each : ZonesStand f c p aux q cam) (stands : StandsAlike c p aux q cam) where
  inside_alike : slow_zone f (checks_of f c) q cam ≡ slow_zone f (checks_of f c) p aux
  unfolding checks_of arms
  inside_alike =
      zones_same f (checks_of f c) (checks_of f c) p aux q cam refl refl
      (λ armed k l. by_place (λ (z : Option Zone). zone_in f c.limits.dt c.absent_camera z q cam ≡ zone_in f c.limits.dt c.absent_camera z p aux) (zone_at c.zones k)
      (empty_place f c.limits.dt c.absent_camera q cam None refl ∙ sym (empty_place f c.limits.dt c.absent_camera p aux None refl))
      (λ radius speed i j e. stands_alike f c.limits.dt c.absent_camera (zone_with i j radius speed) radius speed i j refl p aux q cam new (each armed k l radius speed i j e)))

  near : (j : ℕ) → j < box_dims (checks_of f c) → at q j ≡ at p j
  unfolding checks_of
  near = stands.same_axes

  neither_short : ltb (length q) c.pos_dim ≡ ltb (length p) c.pos_dim
  neither_short = le-ltb _ _ stands.as_long ∙ sym (le-ltb _ _ stands.long_enough)

  pub unseen_as_inside : SameChecks f t c q cam c p aux
  unseen_as_inside =
      same-checks f t c c.armed c.zones c.absent_camera (moves_as_they_are c.armed) (zones_as_they_are c.zones) p aux q cam near neither_short stands.finite_alike inside_alike (differences_as_they_are c.armed)

-- ---- where all are seen

module _ (f : Format) (t : Tables) (c : FuseConfig) (choice : AbsentCamera) (p aux : List Float) (shown : ZonesSeen c p aux) where
  either_choice : slow_zone f (checks_of f (absent_by c choice)) p aux ≡ slow_zone f (checks_of f c) p aux
  unfolding checks_of arms
  either_choice =
      zones_same f (checks_of f c) (checks_of f (absent_by c choice)) p aux p aux refl refl
      (λ armed k l. by_place (λ (z : Option Zone). zone_in f c.limits.dt choice z p aux ≡ zone_in f c.limits.dt c.absent_camera z p aux) (zone_at c.zones k)
      (empty_place f c.limits.dt choice p aux None refl ∙ sym (empty_place f c.limits.dt c.absent_camera p aux None refl))
      (λ radius speed i j e. seen_either f c.limits.dt c.absent_camera (zone_with i j radius speed) radius speed i j refl p aux choice (shown armed k l radius speed i j e)))

  pub choice_only_where_unseen : SameChecks f t (absent_by c choice) p aux c p aux
  choice_only_where_unseen = same-checks f t c c.armed c.zones choice (moves_as_they_are c.armed) (zones_as_they_are c.zones) p aux p aux (λ j l. refl) refl refl either_choice (differences_as_they_are c.armed)

-- ---- past the count

module _ (f : Format) (t : Tables) (c : FuseConfig) (w : Zones) (p aux : List Float) (same : SameZones c.zones w) where
  same_counted : counted w ≡ counted c.zones
  same_counted = rw same.same_count

  either_list : slow_zone f (checks_of f (zoned_by c w)) p aux ≡ slow_zone f (checks_of f c) p aux
  unfolding checks_of arms
  either_list = zones_same f (checks_of f c) (checks_of f (zoned_by c w)) p aux p aux refl same_counted (λ armed k l. ap (λ (z : Option Zone). zone_in f c.limits.dt c.absent_camera z p aux) (same.same_places k l))

  unread_zones : SameChecks f t (zoned_by c w) p aux c p aux
  unread_zones = same-checks f t c c.armed w c.absent_camera (moves_as_they_are c.armed) same p aux p aux (λ j l. refl) refl refl either_list (differences_as_they_are c.armed)

-- ---- all that is promised of the two entries

pub promised : Promised
promised = record {
  chunk_may_touch = λ f c t p aux rows k room. record {
    workspace_touched = chunk_workspace_touched f c t p aux rows k room;
    edge_touched = chunk_edge_touched f c t p aux rows k room;
    speed_touched = chunk_speed_touched f c t p aux rows k room;
    contact_touched = chunk_contact_touched f c t p aux rows k room;
    accel_touched = chunk_accel_touched f c t p aux rows k room;
    jerk_touched = chunk_jerk_touched f c t p aux rows k room;
    reach_touched = chunk_reach_touched f c t p aux rows k room;
    all_touched = chunk_touched f c t p aux rows k room;
  };
  action_may_touch = λ f c t p aux prev a room. record {
    workspace_touched = action_workspace_touched f c t p aux prev a room;
    edge_touched = action_edge_touched f c t p aux prev a room;
    speed_touched = action_speed_touched f c t p aux prev a room;
    contact_touched = action_contact_touched f c t p aux prev a room;
    reach_touched = action_reach_touched f c t p aux prev a room;
    all_touched = action_touched f c t p aux prev a room;
  };
  chunk_walls = chunk_walls;
  action_walls = action_walls;
  chunk_workspace = chunk_workspace;
  action_workspace = action_workspace;
  chunk_distances = chunk_distances;
  action_distances = action_distances;
  chunk_contact = chunk_contact;
  action_contact = action_contact;
  chunk_leash = chunk_leash;
  action_leash = action_leash;
  chunk_moved = chunk_moved;
  action_moved = action_moved;
  chunk_inside_stays = chunk_inside_stays;
  action_inside_stays = action_inside_stays;
  chunk_more_zones = chunk_more_zones;
  action_more_zones = action_more_zones;
  unread_zones = unread_zones;
  no_contact_as_unarmed = no_contact_as_unarmed;
  unseen_as_unarmed = unseen_as_unarmed;
  unseen_as_inside = unseen_as_inside;
  choice_only_where_unseen = choice_only_where_unseen;
  chunk_raised = chunk_raised;
  action_raised = action_raised;
  walls_touched = walls_touched;
  edge_touched = edge_inside;
  inside_stays = stays_inside;
  pulled_first = pulls_first;
  unarmed_stays = unarmed_nothing;
  box_as_before = at_box;
  margin_unread = margin_unread;
  no_contact = no_contact;
  outside_radius = outside_radius;
  one_zone = one_zone;
  each_asked = each_asked;
  zone_told = zone_told;
  seen_exactly = seen_by_lengths;
  no_zone_as_rust = no_zone_as_rust;
  unseen_is_inside = unseen_is_inside;
  unseen_as_empty = unseen_as_empty;
  no_zone_no_leash = no_zone_no_leash;
  more_at_the_end = more_at_the_end;
  unarmed_action = unarmed_action;
  unarmed_chunk = unarmed_chunk;
}
