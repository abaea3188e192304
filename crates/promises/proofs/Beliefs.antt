-- The four beliefs, and what is easily mixed up with the first: each follows from the promises of the crate that has the entry.
use Rattle.envelope.specs.declared.Zone.{Zone}
use Rattle.std.specs.Prelude.{Err, Option}
use Prim.Native.Nat.{ℕ, min}
use mathlib.Core.Path.{◌≡◌, refl, sym, ap, subst, ◌∙◌}
use mathlib.Core.Bool.{Bool, true, false, not, ◌&&◌, ◌||◌, false≢true}
use mathlib.Core.List.{List, [], ◌∷◌, ◌++◌}
use native.Mathlib.Omega.{arith}
use borrow.Author.Tests.{eq-eqb}
use lib.Dec.{eqb}
use lib.ListN.{length, replicate}
use lib.Ieee.{Float, mul, lt, binary64}
use Rattle.refusal.specs.Order.{Judged, computed, ◌when◌, refusal, refused_for}
use Rattle.refusal.specs.Chain.{chain, first_refuses}
use Rattle.fmath.specs.Answer.{some_not_finite}
use Rattle.checked.specs.Finite.{+0}
use Rattle.checked.specs.Each.{some}
use Rattle.checked.proofs.Each.{◌&&≡◌, refuted, some_there}
use Rattle.fmath.specs.Norm.{dist}
use Rattle.workspace.specs.declared.WallMasks.{WallMasks}
use Rattle.chunk.specs.Refusals.{chunk_reasons}
use Rattle.chunk.specs.declared.Header.{Header}
use Rattle.conformal.specs.Rule.{Tables}
use Rattle.envelope.specs.Slots.{counted, zone_at, zone_with}
use Rattle.envelope.specs.Refusals.{sizes_ok, numbers_ok, steps_ok, same_pair, channels_fit, config_judged}
use Rattle.envelope.specs.Promises.{absent_by}
use Rattle.envelope.specs.declared.AbsentCamera.TheVariants as absent
use Rattle.envelope.proofs.Promises.{promised as envelope}
use Rattle.envelope.specs.declared.FuseConfig.{FuseConfig}
use Rattle.tier0.specs.declared.Checks.{Checks}
use Rattle.tier0.specs.Rule.{CONTACT}
use Rattle.tier0.specs.Chunk.{some_longer}
use Rattle.tier0.specs.Refusals.{answer_at as checked, passed_with}
use Rattle.tier0.specs.Of.{checks_of, lent_to_action, action_ruling, action_refusal, action_answer, lent_to_chunk, chunk_ruling, chunk_refusal, chunk_answer}
use Rattle.tier0.specs.Promises.{trips_in, raised, before_first, NoZones, zone_found, inside_at, ZoneUnseen, InsideUnseen}
use Rattle.tier0.proofs.Promises.{no_contact_no_trip, no_contact_no_action_trip}
use Rattle.tier0.proofs.Within.{chunk_touched, action_touched, trips_raised}
use Rattle.tier0.proofs.Leash.{chunk_contact, action_contact}
use Rattle.tier0.proofs.Zones.{no_contact_as_unarmed, unseen_is_inside}
use Rattle.course.specs.Forecast.{place_of}
use Rattle.brake.specs.Towards.{ran_at, running, run_lent, run_refusal, run_answer}
use Rattle.brake.specs.Answer.{answer_at as foreseen, plan, lent_judged, forecast_refusal, forecast_answer, last_unfit, row_lent, sent_at, masks_sent, brake_sent, brake_refusal, brake_answer, hold_sent, hold_refusal, hold_answer}
use Rattle.brake.proofs.Promises.{feasible_exactly}
use Rattle.promises.specs.Beliefs.{EmptyBoxSlowsNothing, SilentCameraSlows, ChannelsAre4, OneChannelIsRefused, SamePairIsRefused, TouchingTripsNothing, StartIsNotInspected}

-- ---- an empty contact box

chunk_not_raised : (c : FuseConfig) (tabs : Tables) → NoZones c.zones → (p aux rows : List Float) (k : Header) (room : ℕ) → raised CONTACT (trips_in (chunk_answer binary64 c tabs p aux rows k room)) ≡ false
unfolding chunk_answer chunk_ruling checks_of
chunk_not_raised c tabs is p aux rows k room =
    trips_raised CONTACT (chunk_refusal binary64 c tabs p aux rows k room) (chunk_ruling binary64 c p aux rows k.horizon).value refl
    (no_contact_no_trip binary64 (checks_of binary64 c) p aux rows (replicate 512 +0) k.horizon is)

action_not_raised : (c : FuseConfig) (tabs : Tables) → NoZones c.zones → (p aux prev a : List Float) (room : ℕ) → raised CONTACT (trips_in (action_answer binary64 c tabs p aux prev a room)) ≡ false
unfolding action_answer action_ruling checks_of
action_not_raised c tabs is p aux prev a room =
    trips_raised CONTACT (action_refusal binary64 c tabs p aux prev a room) (action_ruling binary64 c p aux prev a).value refl
    (no_contact_no_action_trip binary64 (checks_of binary64 c) p aux prev a is)

pub empty_box_slows_nothing : EmptyBoxSlowsNothing
empty_box_slows_nothing = record {
  chunk_not_raised = λ c choice. chunk_not_raised (absent_by c choice);
  action_not_raised = λ c choice. action_not_raised (absent_by c choice);
  as_unarmed = λ c choice tabs is p aux. no_contact_as_unarmed binary64 tabs c choice p aux is;
}

-- ---- a silent camera

first_of_one : (test : ℕ → Bool) (n : ℕ) → n ≡ 1 → some test (min n 4) ≡ test 0
unfolding some
first_of_one test n one = rw one

module _ (c : FuseConfig) (tabs : Tables) (k : ℕ) (p aux : List Float) (radius speed : Float) (i j : ℕ) (new : c.absent_camera ≡ absent.Slow) (silent : ZoneUnseen c.armed c.zones k p aux radius speed i j) where
  abbrev s : Checks
  s = checks_of binary64 c

  told : InsideUnseen binary64 s k p aux speed
  unfolding checks_of
  told = unseen_is_inside binary64 s k p aux radius speed i j new silent

  one_step : mul binary64 speed s.dt ≡ mul binary64 speed c.limits.dt
  unfolding checks_of
  one_step = refl

  -- a test that holds of the zone's step holds of some zone that the arm is inside
  of_some : (longer : Float → Bool) → longer (mul binary64 speed c.limits.dt) ≡ true → some (λ (z : ℕ). inside_at binary64 s p aux z && longer (zone_found binary64 s p aux z).step) (counted c.zones) ≡ true
  of_some longer e = some_there (λ (z : ℕ). inside_at binary64 s p aux z && longer (zone_found binary64 s p aux z).step) (counted c.zones) k silent.counts (told.counts_as_inside &&≡ (ap longer (told.its_step ∙ one_step) ∙ e))

  silent_chunk : (rows : List Float) (h : Header) (room trips dims : ℕ) (peak : Float) (walls : WallMasks)
      → chunk_answer binary64 c tabs p aux rows h room ≡ passed_with trips dims peak walls
      → some_longer binary64 (before_first binary64 c p aux rows) rows c.dim (mul binary64 speed c.limits.dt) h.horizon ≡ true → raised CONTACT trips ≡ true
  silent_chunk rows h room trips dims peak walls e long =
      chunk_contact binary64 c tabs p aux rows h room trips dims peak walls e ∙ of_some (λ (x : Float). some_longer binary64 (before_first binary64 c p aux rows) rows c.dim x h.horizon) long

  silent_action : (prev a : List Float) (room trips dims : ℕ) (peak : Float) (walls : WallMasks)
      → action_answer binary64 c tabs p aux prev a room ≡ passed_with trips dims peak walls
      → lt (mul binary64 speed c.limits.dt) (dist binary64 a prev c.dim).value ≡ true → raised CONTACT trips ≡ true
  silent_action prev a room trips dims peak walls e long =
      action_contact binary64 c tabs p aux prev a room trips dims peak walls e ∙ of_some (λ (x : Float). lt x (dist binary64 a prev c.dim).value) long

  -- of the only zone there is no other to exceed
  of_only : c.zones.count ≡ 1 → (longer : Float → Bool) → some (λ (z : ℕ). inside_at binary64 s p aux z && longer (zone_found binary64 s p aux z).step) (counted c.zones) ≡ longer (mul binary64 speed c.limits.dt)
  of_only one longer =
      let first : k ≡ 0 = omega (arith, silent.counts, one) in
      first_of_one (λ (z : ℕ). inside_at binary64 s p aux z && longer (zone_found binary64 s p aux z).step) c.zones.count one
      ∙ (subst (λ (z : ℕ). (inside_at binary64 s p aux z && longer (zone_found binary64 s p aux z).step) ≡ longer (mul binary64 speed c.limits.dt)) first (told.counts_as_inside &&≡ ap longer (told.its_step ∙ one_step)))

  only_chunk : c.zones.count ≡ 1 → (rows : List Float) (h : Header) (room trips dims : ℕ) (peak : Float) (walls : WallMasks)
      → chunk_answer binary64 c tabs p aux rows h room ≡ passed_with trips dims peak walls
      → raised CONTACT trips ≡ some_longer binary64 (before_first binary64 c p aux rows) rows c.dim (mul binary64 speed c.limits.dt) h.horizon
  only_chunk one rows h room trips dims peak walls e =
      chunk_contact binary64 c tabs p aux rows h room trips dims peak walls e ∙ of_only one (λ (x : Float). some_longer binary64 (before_first binary64 c p aux rows) rows c.dim x h.horizon)

  only_action : c.zones.count ≡ 1 → (prev a : List Float) (room trips dims : ℕ) (peak : Float) (walls : WallMasks)
      → action_answer binary64 c tabs p aux prev a room ≡ passed_with trips dims peak walls
      → raised CONTACT trips ≡ lt (mul binary64 speed c.limits.dt) (dist binary64 a prev c.dim).value
  only_action one prev a room trips dims peak walls e =
      action_contact binary64 c tabs p aux prev a room trips dims peak walls e ∙ of_only one (λ (x : Float). lt x (dist binary64 a prev c.dim).value)

pub silent_camera_slows : SilentCameraSlows
silent_camera_slows c tabs k p aux radius speed i j new silent = record {
  chunk_raised = silent_chunk c tabs k p aux radius speed i j new silent;
  action_raised = silent_action c tabs k p aux radius speed i j new silent;
  only_zone_chunk = only_chunk c tabs k p aux radius speed i j new silent;
  only_zone_action = only_action c tabs k p aux radius speed i j new silent;
}

-- ---- one camera channel for both coordinates

module _ (c : FuseConfig) (tabs : Tables) (four : refusal (config_judged binary64 c tabs) ≡ 4) where
  -- what is judged after the configuration does not matter
  is_4 : (rest : List Judged) → chain (config_judged binary64 c tabs ++ rest) ≡ 4
  is_4 rest = first_refuses (config_judged binary64 c tabs) rest (λ z. let f : chain (config_judged binary64 c tabs) ≡ 4 = four in omega (arith, f, z)) ∙ four

  chunk_4 : (p aux rows : List Float) (k : Header) (room : ℕ) → chunk_answer binary64 c tabs p aux rows k room ≡ Err (refused_for 4)
  unfolding chunk_answer chunk_refusal
  chunk_4 p aux rows k room =
      ap (λ (n : ℕ). checked n (chunk_ruling binary64 c p aux rows k.horizon).value)
      (is_4 (chunk_reasons k (length rows) ++ lent_to_chunk c p aux rows k room ((computed when not (chunk_ruling binary64 c p aux rows k.horizon).sound) ∷ [])))

  action_4 : (p aux prev a : List Float) (room : ℕ) → action_answer binary64 c tabs p aux prev a room ≡ Err (refused_for 4)
  unfolding action_answer action_refusal
  action_4 p aux prev a room =
      ap (λ (n : ℕ). checked n (action_ruling binary64 c p aux prev a).value) (is_4 (lent_to_action c p aux prev a room ((computed when not (action_ruling binary64 c p aux prev a).sound) ∷ [])))

  forecast_4 : (p v rows : List Float) (k : Header) (from room : ℕ) → forecast_answer binary64 c tabs p v rows k from room ≡ Err (refused_for 4)
  unfolding forecast_answer forecast_refusal
  forecast_4 p v rows k from room =
      let t = plan binary64 c p v rows k from in
      ap (λ (n : ℕ). foreseen n t) (is_4 (chunk_reasons k (length rows) ++ (lent_judged binary64 c p v rows k from room ++ ((computed when not (eqb (place_of t) 0)) ∷ []))))

  run_4 : (a p v : List Float) (n room : ℕ) → run_answer binary64 c tabs a p v n room ≡ Err (refused_for 4)
  unfolding run_answer run_refusal
  run_4 a p v n room =
      let t = running binary64 c a p v n in
      ap (λ (k : ℕ). ran_at k t) (is_4 (run_lent binary64 c a p v n room ++ (computed when not (eqb (place_of t) 0) ∷ [])))

  brake_4 : (p v last : List Float) (room : ℕ) → brake_answer binary64 c tabs p v last room ≡ Err (refused_for 4)
  unfolding brake_answer brake_refusal
  brake_4 p v last room =
      ap (λ (n : ℕ). sent_at n (masks_sent binary64 c p))
      (is_4 (row_lent c (some_not_finite p || some_not_finite v || last_unfit c.gripper last) room (length last) ++ ((computed when not (brake_sent binary64 c p v last).sound) ∷ [])))

  hold_4 : (p last : List Float) (room : ℕ) → hold_answer binary64 c tabs p last room ≡ Err (refused_for 4)
  unfolding hold_answer hold_refusal
  hold_4 p last room =
      ap (λ (n : ℕ). sent_at n (masks_sent binary64 c p)) (is_4 (row_lent c (some_not_finite p || last_unfit c.gripper last) room (length last) ++ (computed when not (hold_sent binary64 c p last).sound ∷ [])))

  all_4 : ChannelsAre4 c tabs
  all_4 = record { configuration_is_4 = four; chunk_is_4 = chunk_4; action_is_4 = action_4; forecast_is_4 = forecast_4; run_is_4 = run_4; brake_is_4 = brake_4; hold_is_4 = hold_4 }

-- where the channels do not fit, and nothing before them is refused
unfit_4 : (c : FuseConfig) (tabs : Tables) → channels_fit c ≡ false → sizes_ok c ≡ true → numbers_ok binary64 c tabs ≡ true → steps_ok c ≡ true → ChannelsAre4 c tabs
unfit_4 c tabs unfit sizes numbers counts = all_4 c tabs (rw (sizes, numbers, counts, unfit))

pub one_channel_is_refused : OneChannelIsRefused
one_channel_is_refused c tabs k radius speed i l is =
    unfit_4 c tabs
    (refuted (channels_fit c) (λ fit. false≢true (rw (is, eq-eqb i i refl) at ((envelope.zones_judged c.zones c.aux_count).each_channel fit k l))))

-- ---- one pair for two zones

pub same_pair_is_refused : SamePairIsRefused
same_pair_is_refused c tabs m k radius speed wide fast i j before l first second =
    unfit_4 c tabs
    (refuted (channels_fit c) (λ fit. false≢true (sym ((envelope.zones_judged c.zones c.aux_count).no_pair_twice fit m k before l) ∙ ap (λ (x : Option Zone). same_pair x (zone_at c.zones k)) first ∙ ap (same_pair (zone_with i j radius speed)) second ∙ (envelope.pairs_told radius speed wide fast i j i j).repeated refl refl)))

-- ---- a limit that is touched

pub touching_trips_nothing : TouchingTripsNothing
touching_trips_nothing = record { chunk_raises_nothing = chunk_touched binary64; action_raises_nothing = action_touched binary64 }

-- ---- where the arm stands now

pub start_is_not_inspected : StartIsNotInspected
start_is_not_inspected = record {
  feasible_only_inside = λ x g is n margin stop a. (feasible_exactly x g is a).0 refl;
  inside_is_feasible = λ x g is n margin feasible stop a. (feasible_exactly x g is a).1;
}
