-- A limit that is not strictly exceeded is not raised: a trip is "armed, and some comparison holds", and none does.
use Prim.Native.Nat.{ℕ, zero, suc, ◌-◌, ◌<◌}
use mathlib.Core.Path.{◌≡◌, refl, ◌∙◌}
use mathlib.Core.Bool.{Bool, true, false, ◌&&◌}
use mathlib.Core.List.{List, []}
use lib.ListN.{replicate}
use lib.Ieee.{Float, Format, lt}
use Rattle.std.specs.Prelude.{if◌then◌else◌}
use Rattle.checked.specs.Finite.{+0}
use Rattle.checked.proofs.Each.{some_none}
use Rattle.checked.specs.Checked.{Checked, pure}
use Rattle.fmath.specs.Norm.{dist}
use Rattle.workspace.specs.Of.{walls_in}
use Rattle.workspace.specs.Rule.{outside, beyond}
use Rattle.workspace.specs.declared.Shape.TheVariants.{Disc}
use Rattle.workspace.proofs.Promises as workspace
use Rattle.chunk.specs.declared.Header.{Header}
use Rattle.conformal.specs.Rule.{Tables}
use Rattle.envelope.specs.declared.FuseConfig.{FuseConfig}
use Rattle.tier0.specs.declared.Checks.{Checks}
use Rattle.tier0.specs.declared.Difference.{Difference}
use Rattle.tier0.specs.declared.Difference.TheVariants.{Accel, Jerk}
use Rattle.tier0.specs.Rule.{WORKSPACE, SPEED, ACCEL, JERK, REACH, CONTACT, arms, box_dims, out_of_workspace, out_of_reach, trip_bits, Judgement, check_action}
use Rattle.tier0.specs.Chunk.{raw_row, step_to, some_longer, some_out_of_workspace, some_of, exceeds, large_at, further, trip_of, too_large, check_chunk}
use Rattle.tier0.specs.Refusals.{answer_at}
use Rattle.tier0.specs.Of.{checks_of, action_ruling, action_refusal, action_answer, chunk_ruling, chunk_refusal, chunk_answer}
use Rattle.tier0.specs.Promises.{trips_in, raised, chunk_trips, action_trips, RowInside, OnTheEdge, EdgeTouched, before_first, zone_now, ChunkInside, ChunkSlowEnough, ChunkSlowInZone, ChunkBendsLittle, ChunkJoltsLittle, ChunkInReach, ChunkWithin, zone_here, action_step, ActionInside, ActionSlowEnough, ActionSlowInZone, ActionInReach, ActionWithin}
use Rattle.tier0.proofs.Promises.{chunk_raised, action_raised}
use Rattle.tier0.proofs.Leash.{one_of}

-- ---- comparisons of which none holds

where_so : (b x : Bool) → (b ≡ true → x ≡ false) → (b && x) ≡ false
where_so true x h = h refl
where_so false x h = refl

if_so : (b : Bool) (x : Checked Bool) → x.value ≡ false → (if b then x else pure false).value ≡ false
if_so true x h = h
if_so false x h = refl

none_outside : (f : Format) (s : Checks) (a : List Float) → RowInside f s a → (out_of_workspace f s a).value ≡ false
unfolding out_of_workspace outside
none_outside f s a h = if_so (arms s WORKSPACE) _ (rw h.within_edge (some_none (beyond (walls_in s.shape s.walls) a) (box_dims s) h.within_walls))

in_reach : (f : Format) (s : Checks) (p a : List Float) → lt s.reach_max (dist f a p (box_dims s)).value ≡ false → (out_of_reach f s p a).value ≡ false
unfolding out_of_reach
in_reach f s p a h = if_so (arms s REACH) _ h

none_large : (f : Format) (s : Checks) (d : Difference) (q rows : List Float) (h : ℕ) → ((i : ℕ) → i < h - further d → (large_at f s d q rows i).value ≡ false) → (too_large f s d q rows h).value ≡ false
unfolding too_large some_of
none_large f s d q rows h e = if_so (arms s (trip_of d)) _ (some_none (λ (i : ℕ). (large_at f s d q rows i).value) (h - further d) e)

-- ---- the trips of an answer are those of the rule, or none

pub trips_raised : (w n : ℕ) (j : Judgement) → raised w 0 ≡ false → raised w j.trips ≡ false → raised w (trips_in (answer_at n j)) ≡ false
trips_raised w zero j none h = h
trips_raised w (suc n) j none h = none

trips_none : (n : ℕ) (j : Judgement) → j.trips ≡ 0 → trips_in (answer_at n j) ≡ 0
trips_none zero j h = h
trips_none (suc n) j h = refl

-- ---- on the edge of a disc

pub edge_inside : EdgeTouched
edge_inside f s x y radius a is h = record { within_edge = rw is (((workspace.promised).on_a_disc f x y radius [] [] a 0).on_the_edge h.as_far); within_walls = h.no_wall_passed }

-- ---- a chunk

module _ (f : Format) (c : FuseConfig) (t : Tables) (p aux rows : List Float) (k : Header) (room : ℕ) where
  abbrev h : ℕ
  h = k.horizon

  abbrev s : Checks
  s = checks_of f c

  abbrev trips : ℕ
  trips = trips_in (chunk_answer f c t p aux rows k room)

  from_rule : (w : ℕ) → raised w 0 ≡ false → raised w (chunk_trips f s p aux rows (replicate 512 +0) h) ≡ false → raised w trips ≡ false
  unfolding chunk_answer chunk_ruling
  from_rule w none = trips_raised w (chunk_refusal f c t p aux rows k room) (chunk_ruling f c p aux rows h).value none

  not_out : ChunkInside f c p aux rows h → (some_out_of_workspace f s rows h).value ≡ false
  unfolding some_out_of_workspace some_of
  not_out w = some_none (λ (i : ℕ). (out_of_workspace f s (raw_row rows s.dim i)).value) h (λ i b. none_outside f s (raw_row rows s.dim i) (w i b))

  not_longer : (most : Float) → ((i : ℕ) → i < h → lt most (step_to f (before_first f c p aux rows) rows s.dim i).value ≡ false) → some_longer f (before_first f c p aux rows) rows s.dim most h ≡ false
  unfolding some_longer
  not_longer most = some_none (λ (i : ℕ). lt most (step_to f (before_first f c p aux rows) rows s.dim i).value) h

  not_fast : ChunkSlowEnough f c p aux rows h → (arms s SPEED && some_longer f (before_first f c p aux rows) rows s.dim s.step_max h) ≡ false
  not_fast w = where_so (arms s SPEED) _ (λ a. not_longer s.step_max w)

  not_close : ChunkSlowInZone f c p aux rows h → ((zone_now f c p aux rows).inside && some_longer f (before_first f c p aux rows) rows s.dim (zone_now f c p aux rows).step h) ≡ false
  unfolding checks_of
  not_close w = where_so (zone_now f c p aux rows).inside _ (λ a. let one = one_of f s p aux a in not_longer (zone_now f c p aux rows).step (λ i l. rw one.such (w one.index one.within one.holds i l)))

  not_bent : ChunkBendsLittle f c p aux rows h → (too_large f s Accel (before_first f c p aux rows) rows h).value ≡ false
  unfolding large_at exceeds
  not_bent w = none_large f s Accel (before_first f c p aux rows) rows h w

  not_jolted : ChunkJoltsLittle f c p aux rows h → (too_large f s Jerk (before_first f c p aux rows) rows h).value ≡ false
  unfolding large_at exceeds
  not_jolted w = none_large f s Jerk (before_first f c p aux rows) rows h w

  not_far : ChunkInReach f c p aux rows → (out_of_reach f s p (raw_row rows s.dim 0)).value ≡ false
  not_far w = in_reach f s p (raw_row rows s.dim 0) w

  abbrev l : List Float
  l = replicate 512 +0

  -- each limit by itself ..
  pub chunk_workspace_touched : ChunkInside f c p aux rows h → raised WORKSPACE trips ≡ false
  chunk_workspace_touched w = from_rule WORKSPACE refl ((chunk_raised f s p aux rows l h).workspace ∙ not_out w)

  pub chunk_edge_touched : (x y radius : Float) → c.shape ≡ Disc x y radius → ((i : ℕ) → i < h → OnTheEdge f s x y radius (raw_row rows c.dim i)) → raised WORKSPACE trips ≡ false
  unfolding checks_of
  chunk_edge_touched x y radius is w = chunk_workspace_touched (λ i b. edge_inside f s x y radius (raw_row rows c.dim i) is (w i b))

  pub chunk_speed_touched : ChunkSlowEnough f c p aux rows h → raised SPEED trips ≡ false
  chunk_speed_touched w = from_rule SPEED refl ((chunk_raised f s p aux rows l h).speed ∙ not_fast w)

  pub chunk_accel_touched : ChunkBendsLittle f c p aux rows h → raised ACCEL trips ≡ false
  chunk_accel_touched w = from_rule ACCEL refl ((chunk_raised f s p aux rows l h).accel ∙ not_bent w)

  pub chunk_jerk_touched : ChunkJoltsLittle f c p aux rows h → raised JERK trips ≡ false
  chunk_jerk_touched w = from_rule JERK refl ((chunk_raised f s p aux rows l h).jerk ∙ not_jolted w)

  pub chunk_reach_touched : ChunkInReach f c p aux rows → raised REACH trips ≡ false
  chunk_reach_touched w = from_rule REACH refl ((chunk_raised f s p aux rows l h).reach ∙ not_far w)

  pub chunk_contact_touched : ChunkSlowInZone f c p aux rows h → raised CONTACT trips ≡ false
  chunk_contact_touched w = from_rule CONTACT refl ((chunk_raised f s p aux rows l h).contact ∙ not_close w)

  -- where none of them is exceeded, nothing is raised
  none_tripped : ChunkWithin f c p aux rows h → chunk_trips f s p aux rows l h ≡ 0
  unfolding check_chunk trip_bits
  none_tripped w = rw (not_out w.workspace, not_fast w.speed, not_bent w.accel, not_jolted w.jerk, not_far w.reach, not_close w.contact)

  pub chunk_touched : ChunkWithin f c p aux rows h → trips ≡ 0
  unfolding chunk_answer chunk_ruling
  chunk_touched w = trips_none (chunk_refusal f c t p aux rows k room) (chunk_ruling f c p aux rows h).value (none_tripped w)

-- ---- an action

module _ (f : Format) (c : FuseConfig) (t : Tables) (p aux prev a : List Float) (room : ℕ) where
  abbrev trips_of : ℕ
  trips_of = trips_in (action_answer f c t p aux prev a room)

  action_from_rule : (w : ℕ) → raised w 0 ≡ false → raised w (action_trips f (checks_of f c) p aux prev a) ≡ false → raised w trips_of ≡ false
  unfolding action_answer action_ruling
  action_from_rule w none = trips_raised w (action_refusal f c t p aux prev a room) (action_ruling f c p aux prev a).value none

  action_not_fast : ActionSlowEnough f c p aux prev a → (arms (checks_of f c) SPEED && lt (checks_of f c).step_max (action_step f c p aux prev a)) ≡ false
  action_not_fast w = where_so (arms (checks_of f c) SPEED) _ (λ e. w)

  action_not_close : ActionSlowInZone f c p aux prev a → ((zone_here f c p aux prev a).inside && lt (zone_here f c p aux prev a).step (action_step f c p aux prev a)) ≡ false
  unfolding checks_of
  action_not_close w = where_so (zone_here f c p aux prev a).inside _ (λ i. let one = one_of f (checks_of f c) p aux i in rw one.such (w one.index one.within one.holds))

  pub action_workspace_touched : ActionInside f c p aux prev a → raised WORKSPACE trips_of ≡ false
  action_workspace_touched w = action_from_rule WORKSPACE refl ((action_raised f (checks_of f c) p aux prev a).workspace ∙ none_outside f (checks_of f c) a w)

  pub action_edge_touched : (x y radius : Float) → c.shape ≡ Disc x y radius → OnTheEdge f (checks_of f c) x y radius a → raised WORKSPACE trips_of ≡ false
  unfolding checks_of
  action_edge_touched x y radius is h = action_workspace_touched (edge_inside f (checks_of f c) x y radius a is h)

  pub action_speed_touched : ActionSlowEnough f c p aux prev a → raised SPEED trips_of ≡ false
  action_speed_touched w = action_from_rule SPEED refl ((action_raised f (checks_of f c) p aux prev a).speed ∙ action_not_fast w)

  pub action_reach_touched : ActionInReach f c p aux prev a → raised REACH trips_of ≡ false
  action_reach_touched w = action_from_rule REACH refl ((action_raised f (checks_of f c) p aux prev a).reach ∙ in_reach f (checks_of f c) p a w)

  pub action_contact_touched : ActionSlowInZone f c p aux prev a → raised CONTACT trips_of ≡ false
  action_contact_touched w = action_from_rule CONTACT refl ((action_raised f (checks_of f c) p aux prev a).contact ∙ action_not_close w)

  action_none_tripped : ActionWithin f c p aux prev a → action_trips f (checks_of f c) p aux prev a ≡ 0
  unfolding check_action trip_bits
  action_none_tripped w = rw (none_outside f (checks_of f c) a w.workspace, action_not_fast w.speed, in_reach f (checks_of f c) p a w.reach, action_not_close w.contact)

  pub action_touched : ActionWithin f c p aux prev a → trips_of ≡ 0
  unfolding action_answer action_ruling
  action_touched w = trips_none (action_refusal f c t p aux prev a room) (action_ruling f c p aux prev a).value (action_none_tripped w)
