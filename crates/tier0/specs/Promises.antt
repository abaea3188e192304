-- What is promised of the answers of `check_chunk` and `check_action`, and what follows from the rules that they cite. `proofs/Zones.promised` is all of it; a chunk that is
-- not touched has a file of its own, `Calm`. A projected row that passes its check again is not promised.
use Rattle.envelope.specs.declared.Zone.{Zone}
use Rattle.tier0.specs.Refusals.{passed_with}
use Rattle.refusal.specs.declared.Refusal.{Refusal}
use Rattle.std.specs.Prelude.{ℕ, ◌+◌, ◌-◌, ◌*◌, ◌/◌, ◌%◌, ◌≤◌, ◌<◌, min, ◌≡◌, Bool, true, false, not, ◌&&◌, ◌||◌, ◌⊎◌, List, [], ◌∷◌, eqb, length, replicate, Float, if◌then◌else◌, Err, Result, Ok, None, Option, Some}
use Rattle.std.specs.Float.{Format}
use Rattle.std.specs.Float.Ieee.{mul, lt, le, eq}
use Rattle.bits.specs.Bits.{bit, bits_where}
use Rattle.checked.specs.Each.{at, all, some, over, Among}
use Rattle.checked.specs.Row.{padded}
use Rattle.checked.specs.Finite.{+0, finite}
use Rattle.checked.specs.Checked.{Checked, ◌>>=◌, each, pure}
use Rattle.fmath.specs.Answer.{some_not_finite}
use Rattle.fmath.specs.Norm.{norm, dist}
use Rattle.fmath.specs.Clamp.{clamped}
use Rattle.fmath.specs.Clamp as walls
use Rattle.pull.specs.Rule.{shortened, pulled}
use Rattle.workspace.specs.Of.{walls_in}
use Rattle.workspace.specs.declared.WallMasks.{WallMasks}
use Rattle.workspace.specs.declared.Shape.TheVariants.{Box, Disc}
use Rattle.workspace.specs.Shape.{boxed}
use Rattle.workspace.specs.Rule.{Walls, from_centre, past_edge, beyond, raised_at, lowered_at, unmoved}
use Rattle.workspace.specs.Promises.{AxisTold, AxisOfAnyTold, NoBitPast}
use Rattle.chunk.specs.declared.Header.{Header}
use Rattle.conformal.specs.Rule.{Tables}
use Rattle.envelope.specs.declared.ClampMode.TheVariants.{Off, Project}
use Rattle.envelope.specs.Slots.{counted, zone_at, zone_with}
use Rattle.envelope.specs.Promises.{armed_by, absent_by, zoned_by, margined_by, Agree, SameZones}
use Rattle.envelope.specs.declared.AbsentCamera.{AbsentCamera}
use Rattle.envelope.specs.declared.AbsentCamera.TheVariants as absent
use Rattle.envelope.specs.declared.Zones.{Zones}
use Rattle.envelope.specs.declared.FuseConfig.{FuseConfig}
use Rattle.tier0.specs.declared.Tier0Out.{Tier0Out}
use Rattle.tier0.specs.declared.Checks.{Checks}
use Rattle.tier0.specs.declared.Difference.TheVariants.{Accel, Jerk}
use Rattle.tier0.specs.Rule.{WORKSPACE, SPEED, ACCEL, JERK, REACH, CONTACT, weight, arms, box_dims, Slow, clear, seen, inside_unseen, zone_step, zone_in, slowest, slow_zone, out_of_workspace, out_of_reach, leash, moved_inside, reached, moves_inside, row_masks, check_action}
use Rattle.tier0.specs.Chunk.{raw_row, start_row, row_before, step_to, bends, jolts, some_longer, some_out_of_workspace, too_large, check_chunk}
use Rattle.tier0.specs.Of.{checks_of, action_answer, action_out, chunk_answer, chunk_out}

-- the trips of an answer: none where it is refused
abbrev pub trips_in : Result Tier0Out Refusal → ℕ
trips_in (Ok o) = o.trips
trips_in (Err r) = 0

-- nothing is refused
abbrev pub accepts : Result Tier0Out Refusal → Bool
accepts (Ok o) = true
accepts (Err r) = false

-- a bit of the trips is raised
abbrev pub raised : ℕ → ℕ → Bool
raised w t = eqb (t / w % 2) 1

-- ---- the zones one by one

module _ (f : Format) (s : Checks) (p aux : List Float) where
  -- what the zone at place k of the list says
  abbrev pub zone_found : ℕ → Slow
  zone_found k = (zone_in f s.dt s.absent_camera (zone_at s.zones k) p aux).value

  -- each number that is computed for it is finite
  abbrev pub zone_finite : ℕ → Bool
  zone_finite k = (zone_in f s.dt s.absent_camera (zone_at s.zones k) p aux).sound

  -- the arm is inside it, where CONTACT is armed
  abbrev pub inside_at : ℕ → Bool
  inside_at k = arms s CONTACT && (zone_found k).inside

  -- whether rows that are projected have a leash, and the leash
  abbrev pub leash_armed : Bool
  leash_armed = arms s SPEED || (slow_zone f s p aux).value.inside

  abbrev pub leash_now : Float
  leash_now = leash (arms s SPEED) s.step_max (slow_zone f s p aux).value

-- ---- no limit is exceeded: each number that is compared with one stays below it, or touches it

-- the scaled length of a difference of rows, as ACCEL and JERK compare it
abbrev pub size_of : Format → (ℕ → Checked Float) → ℕ → Float → Float
size_of f g n inv = mul f (norm f (each g (replicate 8 +0) n).value n).value inv

-- a row is inside the workspace: not past the edge of a disc, and beyond no wall on a shared coordinate. One without a box has no walls
pub record RowInside (f : Format) (s : Checks) (a : List Float) : Type 0 where
  pub within_edge : (past_edge f s.shape a).value ≡ false
  pub within_walls : (j : ℕ) → j < box_dims s → beyond (walls_in s.shape s.walls) a j ≡ false

-- it is outside where one of the two fails
abbrev pub row_outside : Format → Checks → List Float → Bool
row_outside f s a = (past_edge f s.shape a).value || some (beyond (walls_in s.shape s.walls) a) (box_dims s)

module _ (f : Format) (c : FuseConfig) (p aux rows : List Float) where
  abbrev checked : Checks
  checked = checks_of f c

  -- what stands before row 0
  abbrev pub before_first : List Float
  before_first = start_row checked p rows

  -- what the slow zones say together
  abbrev pub zone_now : Slow
  zone_now = (slow_zone f checked p aux).value

  -- the step to row i, its second and its third difference
  abbrev pub step_at : ℕ → Float
  step_at i = (step_to f before_first rows checked.dim i).value

  abbrev pub bend_at : ℕ → Float
  bend_at i = size_of f (bends f (raw_row rows checked.dim (i + 1)) (raw_row rows checked.dim i) (row_before before_first rows checked.dim i)) checked.dim checked.inv_dt2

  abbrev pub jolt_at : ℕ → Float
  jolt_at i = size_of f (jolts f (raw_row rows checked.dim (i + 2)) (raw_row rows checked.dim (i + 1)) (raw_row rows checked.dim i) (row_before before_first rows checked.dim i)) checked.dim checked.inv_dt3

  abbrev pub ChunkInside : ℕ → Type 0
  ChunkInside h = (i : ℕ) → i < h → RowInside f checked (raw_row rows checked.dim i)

  abbrev pub ChunkSlowEnough : ℕ → Type 0
  ChunkSlowEnough h = (i : ℕ) → i < h → lt checked.step_max (step_at i) ≡ false

  abbrev pub ChunkSlowInZone : ℕ → Type 0
  ChunkSlowInZone h = (k : ℕ) → k < counted c.zones → inside_at f checked p aux k ≡ true → (i : ℕ) → i < h → lt (zone_found f checked p aux k).step (step_at i) ≡ false

  abbrev pub ChunkBendsLittle : ℕ → Type 0
  ChunkBendsLittle h = (i : ℕ) → i < h - 1 → lt checked.a_max (bend_at i) ≡ false

  abbrev pub ChunkJoltsLittle : ℕ → Type 0
  ChunkJoltsLittle h = (i : ℕ) → i < h - 2 → lt checked.j_max (jolt_at i) ≡ false

  abbrev pub ChunkInReach : Type 0
  ChunkInReach = lt checked.reach_max (dist f (raw_row rows checked.dim 0) p (box_dims checked)).value ≡ false

-- none of a chunk's limits
pub record ChunkWithin (f : Format) (c : FuseConfig) (p aux rows : List Float) (h : ℕ) : Type 0 where
  pub workspace : ChunkInside f c p aux rows h
  pub speed : ChunkSlowEnough f c p aux rows h
  pub contact : ChunkSlowInZone f c p aux rows h
  pub accel : ChunkBendsLittle f c p aux rows h
  pub jerk : ChunkJoltsLittle f c p aux rows h
  pub reach : ChunkInReach f c p aux rows

-- an action and its predecessor
module _ (f : Format) (c : FuseConfig) (p aux prev a : List Float) where
  abbrev checks : Checks
  checks = checks_of f c

  abbrev pub zone_here : Slow
  zone_here = (slow_zone f checks p aux).value

  abbrev pub action_step : Float
  action_step = (dist f a prev checks.dim).value

  abbrev pub ActionInside : Type 0
  ActionInside = RowInside f checks a

  abbrev pub ActionSlowEnough : Type 0
  ActionSlowEnough = lt checks.step_max action_step ≡ false

  abbrev pub ActionSlowInZone : Type 0
  ActionSlowInZone = (k : ℕ) → k < counted c.zones → inside_at f checks p aux k ≡ true → lt (zone_found f checks p aux k).step action_step ≡ false

  abbrev pub ActionInReach : Type 0
  ActionInReach = lt checks.reach_max (dist f a p (box_dims checks)).value ≡ false

-- none of an action's limits
pub record ActionWithin (f : Format) (c : FuseConfig) (p aux prev a : List Float) : Type 0 where
  pub workspace : ActionInside f c p aux prev a
  pub speed : ActionSlowEnough f c p aux prev a
  pub contact : ActionSlowInZone f c p aux prev a
  pub reach : ActionInReach f c p aux prev a

-- ---- no contact: the configuration with CONTACT unarmed, whatever else is armed

abbrev pub without_contact : ℕ → ℕ
without_contact armed = armed - weight (raised CONTACT armed) CONTACT

abbrev pub contact_unarmed : FuseConfig → FuseConfig
contact_unarmed c = armed_by c (without_contact c.armed)

-- ---- what follows from the rules themselves

-- the trips that the rule finds in a chunk, and in an action
abbrev pub chunk_trips : Format → Checks → (p aux rows l : List Float) → ℕ → ℕ
chunk_trips f s p aux rows l h = (check_chunk f s p aux rows l h).value.trips

abbrev pub action_trips : Format → Checks → (p aux prev a : List Float) → ℕ
action_trips f s p aux prev a = (check_action f s p aux prev a).value.trips

-- each check of a chunk is raised exactly when it is armed and some row strictly exceeds
pub record ChunkRaised (f : Format) (s : Checks) (p aux rows l : List Float) (h : ℕ) : Type 0 where
  pub workspace : raised WORKSPACE (chunk_trips f s p aux rows l h) ≡ (some_out_of_workspace f s rows h).value
  pub speed : raised SPEED (chunk_trips f s p aux rows l h) ≡ (arms s SPEED && some_longer f (start_row s p rows) rows s.dim s.step_max h)
  pub accel : raised ACCEL (chunk_trips f s p aux rows l h) ≡ (too_large f s Accel (start_row s p rows) rows h).value
  pub jerk : raised JERK (chunk_trips f s p aux rows l h) ≡ (too_large f s Jerk (start_row s p rows) rows h).value
  pub reach : raised REACH (chunk_trips f s p aux rows l h) ≡ (out_of_reach f s p (raw_row rows s.dim 0)).value
  pub contact : raised CONTACT (chunk_trips f s p aux rows l h) ≡ ((slow_zone f s p aux).value.inside && some_longer f (start_row s p rows) rows s.dim (slow_zone f s p aux).value.step h)

-- those of an action likewise; ACCEL and JERK are a chunk's
pub record ActionRaised (f : Format) (s : Checks) (p aux prev a : List Float) : Type 0 where
  pub workspace : raised WORKSPACE (action_trips f s p aux prev a) ≡ (out_of_workspace f s a).value
  pub speed : raised SPEED (action_trips f s p aux prev a) ≡ (arms s SPEED && lt s.step_max (dist f a prev s.dim).value)
  pub accel : raised ACCEL (action_trips f s p aux prev a) ≡ false
  pub jerk : raised JERK (action_trips f s p aux prev a) ≡ false
  pub reach : raised REACH (action_trips f s p aux prev a) ≡ (out_of_reach f s p a).value
  pub contact : raised CONTACT (action_trips f s p aux prev a) ≡ ((slow_zone f s p aux).value.inside && lt (slow_zone f s p aux).value.step (dist f a prev s.dim).value)

-- a coordinate on one of its walls is not beyond them
pub record WallsTouched (w : Walls) (a : List Float) (j : ℕ) : Type 0 where
  pub low : lt (at w.hi j) (at w.lo j) ≡ false → at a j ≡ at w.lo j → beyond w a j ≡ false
  pub high : lt (at w.hi j) (at w.lo j) ≡ false → at a j ≡ at w.hi j → beyond w a j ≡ false

-- ---- the slow zones

-- of each zone that counts, P holds, with its radius, speed and channels; a place that holds none is no zone
abbrev pub EachZone : Zones → (Float → Float → ℕ → ℕ → Type 0) → Type 0
EachZone z P = (k : ℕ) → k < counted z → (radius speed : Float) (i j : ℕ) → zone_at z k ≡ zone_with i j radius speed → P radius speed i j

-- no place that counts holds a zone: none counts, or those that do are empty
abbrev pub NoZones : Zones → Type 0
NoZones z = (k : ℕ) → k < counted z → zone_at z k ≡ None

-- then there is no slow zone, whatever the camera says
abbrev pub NoContact : Type 0
NoContact = (f : Format) (s : Checks) (p aux : List Float) → NoZones s.zones → slow_zone f s p aux ≡ pure clear

-- the arm is seen outside a zone: the distance exceeds the radius
pub record SeenOutside (f : Format) (radius : Float) (i j : ℕ) (p aux : List Float) : Type 0 where
  pub in_sight : seen p aux i j ≡ true
  pub beyond_radius : le (dist f p (at aux i ∷ at aux j ∷ []) 2).value radius ≡ false

-- nor is there one where the arm is seen outside each
abbrev pub OutsideRadius : Type 0
OutsideRadius = (f : Format) (s : Checks) (p aux : List Float) → EachZone s.zones (λ radius speed i j. SeenOutside f radius i j p aux) → (slow_zone f s p aux).value ≡ clear

-- one zone is the rule of a single contact
abbrev pub OneZone : Type 0
OneZone = (f : Format) (s : Checks) (p aux : List Float) → s.zones.count ≡ 1 → slow_zone f s p aux ≡ (if arms s CONTACT then zone_in f s.dt s.absent_camera (zone_at s.zones 0) p aux else pure clear)

-- each zone is asked by its own channels: by the distance where it is seen, by the choice where it is not. Inside, its step is its speed x dt
pub record ZoneTold (f : Format) (s : Checks) (p aux : List Float) (k : ℕ) : Type 0 where
  pub empty_place : zone_at s.zones k ≡ None → zone_found f s p aux k ≡ clear
  pub seen_by_distance : (radius speed : Float) (i j : ℕ) → zone_at s.zones k ≡ zone_with i j radius speed → seen p aux i j ≡ true → (zone_found f s p aux k).inside ≡ le (dist f p (at aux i ∷ at aux j ∷ []) 2).value radius
  pub unseen_by_choice : (radius speed : Float) (i j : ℕ) → zone_at s.zones k ≡ zone_with i j radius speed → seen p aux i j ≡ false → (zone_found f s p aux k).inside ≡ inside_unseen s.absent_camera
  pub step_inside : (radius speed : Float) (i j : ℕ) → zone_at s.zones k ≡ zone_with i j radius speed → (zone_found f s p aux k).inside ≡ true → (zone_found f s p aux k).step ≡ mul f speed s.dt
  -- finite have to be its distance where it is seen, and its step where the arm is inside
  pub empty_computes_nothing : zone_at s.zones k ≡ None → zone_finite f s p aux k ≡ true
  pub seen_computes : (radius speed : Float) (i j : ℕ) → zone_at s.zones k ≡ zone_with i j radius speed → seen p aux i j ≡ true → zone_finite f s p aux k ≡ ((dist f p (at aux i ∷ at aux j ∷ []) 2).sound && (not (zone_found f s p aux k).inside || finite (mul f speed s.dt)))
  pub unseen_computes : (radius speed : Float) (i j : ℕ) → zone_at s.zones k ≡ zone_with i j radius speed → seen p aux i j ≡ false → zone_finite f s p aux k ≡ (not (zone_found f s p aux k).inside || finite (mul f speed s.dt))

-- where CONTACT is armed, 13 comes from each zone that counts, and from no other: none is skipped
abbrev pub EachAsked : Type 0
EachAsked = (f : Format) (s : Checks) (p aux : List Float) → (slow_zone f s p aux).sound ≡ (not (arms s CONTACT) || all (zone_finite f s p aux) (counted s.zones))

-- the leash is armed by SPEED and by each zone that the arm is inside; it is at most each of their steps, and it is one of them
pub record LeashTold (f : Format) (s : Checks) (p aux : List Float) : Type 0 where
  pub armed_exactly : leash_armed f s p aux ≡ (arms s SPEED || some (inside_at f s p aux) (counted s.zones))
  pub at_most_speed : arms s SPEED ≡ true → le (leash_now f s p aux) s.step_max ≡ true
  pub at_most_zone : (k : ℕ) → k < counted s.zones → inside_at f s p aux k ≡ true → le (leash_now f s p aux) (zone_found f s p aux k).step ≡ true
  pub is_armed_step : leash_armed f s p aux ≡ true → ((arms s SPEED ≡ true) × (leash_now f s p aux ≡ s.step_max)) ⊎ Among (inside_at f s p aux) (counted s.zones) (λ (k : ℕ). leash_now f s p aux ≡ (zone_found f s p aux k).step)

-- a row as leash and reach move it: by that leash towards the row before it, and, the first one, by the reach towards the position
abbrev pub leashed_row : Format → Checks → (p aux : List Float) → Bool → (prev a : List Float) → Checked (List Float)
leashed_row f s p aux isFirst prev a = do
  l ← if leash_armed f s p aux then pulled f (leash_now f s p aux) prev s.dim a else pure a
  if isFirst then reached f s p l else pure l

-- a row as projection moves it: inside the workspace first, then by leash and reach
abbrev pub moved_row : Format → Checks → (p aux : List Float) → Bool → (prev a : List Float) → Checked (List Float)
moved_row f s p aux isFirst prev a = do
  b ← moved_inside f s a
  leashed_row f s p aux isFirst prev b

-- a list has every zone of another, at whatever places: the other with one more zone, or several, is such a list
abbrev pub HasZonesOf : Zones → Zones → Type 0
HasZonesOf w z = EachZone z (λ radius speed i j. Among (λ (m : ℕ). true) (counted w) (λ (m : ℕ). zone_at w m ≡ zone_with i j radius speed))

-- and so is one that goes on where the other ends
abbrev pub MoreAtTheEnd : Type 0
MoreAtTheEnd = (z w : Zones) → counted z ≤ counted w → ((k : ℕ) → k < counted z → zone_at w k ≡ zone_at z k) → HasZonesOf w z

-- where d has every zone of s, and s has a leash, so has d, and it is not longer
pub record LeashNotLonger (f : Format) (s d : Checks) (p aux : List Float) : Type 0 where
  pub still_armed : leash_armed f s p aux ≡ true → leash_armed f d p aux ≡ true
  pub not_longer : leash_armed f s p aux ≡ true → le (leash_now f d p aux) (leash_now f s p aux) ≡ true

-- ---- a zone that is not seen

-- a zone is seen exactly where the position has two coordinates and the message both channels
pub record SeenExactly (p aux : List Float) (i j : ℕ) : Type 0 where
  pub long_enough : 2 ≤ length p → i < length aux → j < length aux → seen p aux i j ≡ true
  pub position_short : length p < 2 → seen p aux i j ≡ false
  pub first_channel_missing : length aux ≤ i → seen p aux i j ≡ false
  pub second_channel_missing : length aux ≤ j → seen p aux i j ≡ false

-- the zone where one that is not seen is none, which is the Rust's rule: no choice is read
unfoldable pub zone_if_seen : Format → Float → Option Zone → List Float → List Float → Checked Slow
zone_if_seen f dt None p aux = pure clear
zone_if_seen f dt (Some z) p aux =
    if seen p aux z.a0 z.a1 then (do d ← dist f p (at aux z.a0 ∷ at aux z.a1 ∷ []) 2; if le d z.radius then zone_step f dt z.v_max else pure clear) else pure clear

-- under NoZone that is the rule of one zone
abbrev pub NoZoneAsRust : Type 0
NoZoneAsRust = (f : Format) (s : Checks) (p aux : List Float) → s.zones.count ≡ 1 → s.absent_camera ≡ absent.NoZone → slow_zone f s p aux ≡ (if arms s CONTACT then zone_if_seen f s.dt (zone_at s.zones 0) p aux else pure clear)

-- a zone at place k that counts, where CONTACT is armed, and is not seen
pub record ZoneUnseen (armed : ℕ) (z : Zones) (k : ℕ) (p aux : List Float) (radius speed : Float) (i j : ℕ) : Type 0 where
  pub contact_armed : raised CONTACT armed ≡ true
  pub counts : k < counted z
  pub configured : zone_at z k ≡ zone_with i j radius speed
  pub unseen : seen p aux i j ≡ false

-- under Slow the arm is inside it, its step is speed x dt, and no distance is computed
pub record InsideUnseen (f : Format) (s : Checks) (k : ℕ) (p aux : List Float) (speed : Float) : Type 0 where
  pub counts_as_inside : inside_at f s p aux k ≡ true
  pub its_step : (zone_found f s p aux k).step ≡ mul f speed s.dt
  pub step_alone : zone_finite f s p aux k ≡ finite (mul f speed s.dt)

abbrev pub UnseenIsInside : Type 0
UnseenIsInside = (f : Format) (s : Checks) (k : ℕ) (p aux : List Float) (radius speed : Float) (i j : ℕ) → s.absent_camera ≡ absent.Slow → ZoneUnseen s.armed s.zones k p aux radius speed i j → InsideUnseen f s k p aux speed

-- under NoZone a place whose zone is not seen may as well be empty: w has none there, and elsewhere what z has
abbrev pub EmptyWhereUnseen : (p aux : List Float) → Zones → Zones → Type 0
EmptyWhereUnseen p aux z w = (k : ℕ) → k < counted z → (zone_at w k ≡ zone_at z k) ⊎ ((zone_at w k ≡ None) × ((radius speed : Float) (i j : ℕ) → zone_at z k ≡ zone_with i j radius speed → seen p aux i j ≡ false))

abbrev pub UnseenAsEmpty : Type 0
UnseenAsEmpty = (f : Format) (dt : Float) (p aux : List Float) (z w : Zones) → EmptyWhereUnseen p aux z w → slowest f dt absent.NoZone (zone_at w) p aux (counted z) ≡ slowest f dt absent.NoZone (zone_at z) p aux (counted z)

-- without a zone SPEED alone arms the leash, and it is the step of SPEED
pub record SpeedAlone (f : Format) (s : Checks) (p aux : List Float) : Type 0 where
  pub armed_by_speed : leash_armed f s p aux ≡ arms s SPEED
  pub the_longest_step : arms s SPEED ≡ true → leash_now f s p aux ≡ s.step_max

abbrev pub NoZoneNoLeash : Type 0
NoZoneNoLeash = (f : Format) (s : Checks) (p aux : List Float) → NoZones s.zones → SpeedAlone f s p aux

-- with nothing armed an action comes out as it went in, and clamped_dims is 0
abbrev pub UnarmedAction : Type 0
UnarmedAction = (f : Format) (s : Checks) → s.armed ≡ 0 → (p aux prev a : List Float) → ((j : ℕ) → j < s.dim → finite (at (padded a s.dim) j) ≡ true) → (check_action f s p aux prev a).value.after ≡ record { rows = padded a s.dim; mask = 0 }

-- and so do the rows of a chunk
abbrev pub UnarmedChunk : Type 0
UnarmedChunk = (f : Format) (s : Checks) → s.armed ≡ 0 → (p aux rows l : List Float) (h : ℕ) → s.dim ≤ 8 → ((k : ℕ) → k < h * s.dim → finite (at rows k) ≡ true) → (check_chunk f s p aux rows l h).value.after ≡ record { rows = over (at rows) l (h * s.dim); mask = 0 }

-- ---- inside the workspace, and past the edge of a disc

-- a row on the edge of a disc: its distance from the centre equals the radius, and no further coordinate that is shared is beyond a wall
pub record OnTheEdge (f : Format) (s : Checks) (x y radius : Float) (a : List Float) : Type 0 where
  pub as_far : (from_centre f x y a).value ≡ radius
  pub no_wall_passed : (j : ℕ) → j < box_dims s → beyond (walls_in s.shape s.walls) a j ≡ false

-- it is inside
abbrev pub EdgeTouched : Type 0
EdgeTouched = (f : Format) (s : Checks) (x y radius : Float) (a : List Float) → s.shape ≡ Disc x y radius → OnTheEdge f s x y radius a → RowInside f s a

-- the first move leaves a row that is not out of the workspace bit for bit
abbrev pub InsideStays : Type 0
InsideStays = (f : Format) (s : Checks) (a : List Float) → (out_of_workspace f s a).value ≡ false → (moved_inside f s a).value ≡ a

-- where WORKSPACE is armed and a row is further from the centre than the radius, the first move is the pull
pub record PulledFirst (f : Format) (s : Checks) (x y radius : Float) (a : List Float) : Type 0 where
  -- of the first two coordinates, the vector from the centre is shortened; neither leash nor reach has moved them yet
  pub shortened_pair : (j : ℕ) → j < 2 → at (moved_inside f s a).value j ≡ at (shortened f radius (from_centre f x y a).value (x ∷ y ∷ []) 2 a).value j
  -- a further coordinate that is shared goes inside its walls, one that is not stays
  pub further_clamped : (j : ℕ) → 2 ≤ j → j < box_dims s → j < length a → at (moved_inside f s a).value j ≡ clamped (at a j) (at s.walls.lo j) (at s.walls.hi j)
  pub further_stays : (j : ℕ) → 2 ≤ j → box_dims s ≤ j → at (moved_inside f s a).value j ≡ at a j
  -- 13 comes from the distance and from each number of the shortening, and from nothing else
  pub all_checked : (moved_inside f s a).sound ≡ ((from_centre f x y a).sound && (shortened f radius (from_centre f x y a).value (x ∷ y ∷ []) 2 a).sound)

-- with WORKSPACE unarmed a row is not moved inside, does not trip, and no distance is computed, so that none is 13
pub record WorkspaceUnarmed (f : Format) (s : Checks) (a : List Float) : Type 0 where
  pub nothing_moved : moved_inside f s a ≡ pure a
  pub nothing_tripped : out_of_workspace f s a ≡ pure false

-- at a box nothing is computed, and a row trips, is moved and sets bits as by a guard that knows no other shape
pub record BoxAsBefore (f : Format) (s : Checks) (a : List Float) : Type 0 where
  pub tripped_by_walls : out_of_workspace f s a ≡ pure (arms s WORKSPACE && some (λ (j : ℕ). lt (at a j) (at s.walls.lo j) || lt (at s.walls.hi j) (at a j)) (box_dims s))
  pub moved_by_walls : moved_inside f s a ≡ pure (if arms s WORKSPACE then over (λ (j : ℕ). clamped (at a j) (at s.walls.lo j) (at s.walls.hi j)) a (box_dims s) else a)
  pub low_bits : moves_inside s s.clamp ≡ true → (row_masks s a).low ≡ bits_where (λ (j : ℕ). walls.raised (at a j) (at s.walls.lo j) (at s.walls.hi j)) (box_dims s)
  pub high_bits : moves_inside s s.clamp ≡ true → (row_masks s a).high ≡ bits_where (λ (j : ℕ). walls.lowered (at a j) (at s.walls.lo j) (at s.walls.hi j)) (box_dims s)

-- the margin moves walls and not the disc: where no further axis has walls, what the checks read does not know it
abbrev pub MarginUnread : Type 0
MarginUnread = (f : Format) (c : FuseConfig) (x y radius m : Float) → c.shape ≡ Disc x y radius → c.pos_dim ≤ 2 → checks_of f (margined_by c m) ≡ checks_of f c

-- ---- which walls moved the rows

-- coordinate j of row i, as `check_chunk` leaves it in the lent output, is as a number what the first move made of it: neither leash nor reach moved it
abbrev pub RowAsMovedInside : Format → FuseConfig → Tables → (p aux rows : List Float) → Header → List Float → ℕ → ℕ → Type 0
RowAsMovedInside f c t p aux rows k l i j = eq (at (chunk_out f c t p aux rows k l) (i * (checks_of f c).dim + j)) (at (moved_inside f (checks_of f c) (raw_row rows (checks_of f c).dim i)).value j) ≡ true

-- what the masks of an accepted `check_chunk` say, beside its clamped_dims and the output
pub record ChunkWalls (f : Format) (c : FuseConfig) (t : Tables) (p aux rows : List Float) (k : Header) (l : List Float) (dims : ℕ) (walls : WallMasks) : Type 0 where
  -- nothing under ClampMode Off, nor with WORKSPACE unarmed
  pub off_none : c.clamp ≡ Off → walls ≡ unmoved
  pub unarmed_none : arms (checks_of f c) WORKSPACE ≡ false → walls ≡ unmoved
  -- else, on each shared axis, what its walls do to any row as it came; one without a box has none
  pub each_axis : c.clamp ≡ Project → arms (checks_of f c) WORKSPACE ≡ true → (j : ℕ) → j < box_dims (checks_of f c) → AxisOfAnyTold (walls_in (checks_of f c).shape (checks_of f c).walls) (raw_row rows (checks_of f c).dim) k.horizon j walls
  -- nothing past those axes, and nothing on one without a box
  pub none_past : NoBitPast walls (box_dims (checks_of f c))
  pub no_bit_without_a_box : (j : ℕ) → boxed c.shape j ≡ false → (bit walls.low j ≡ false) × (bit walls.high j ≡ false)
  -- of a chunk of one row no axis has both
  pub one_row_never_both : k.horizon ≡ 1 → (j : ℕ) → (bit walls.low j && bit walls.high j) ≡ false
  -- where neither leash nor reach moved it, a coordinate that a wall moved is one of clamped_dims
  pub in_clamped_dims :
      c.clamp ≡ Project → arms (checks_of f c) WORKSPACE ≡ true → (i j : ℕ) → i < k.horizon → j < box_dims (checks_of f c) → RowAsMovedInside f c t p aux rows k l i j
      → (raised_at (walls_in (checks_of f c).shape (checks_of f c).walls) (raw_row rows (checks_of f c).dim i) j || lowered_at (walls_in (checks_of f c).shape (checks_of f c).walls) (raw_row rows (checks_of f c).dim i) j) ≡ true → bit dims j ≡ true

-- of an action likewise
abbrev pub ActionAsMovedInside : Format → FuseConfig → Tables → (p aux prev a l : List Float) → ℕ → Type 0
ActionAsMovedInside f c t p aux prev a l j = eq (at (action_out f c t p aux prev a l) j) (at (moved_inside f (checks_of f c) (padded a (checks_of f c).dim)).value j) ≡ true

-- what those of an accepted `check_action` say: of the one row, so no axis has both
pub record ActionWalls (f : Format) (c : FuseConfig) (t : Tables) (p aux prev a l : List Float) (dims : ℕ) (walls : WallMasks) : Type 0 where
  pub off_none : c.clamp ≡ Off → walls ≡ unmoved
  pub unarmed_none : arms (checks_of f c) WORKSPACE ≡ false → walls ≡ unmoved
  pub each_axis : c.clamp ≡ Project → arms (checks_of f c) WORKSPACE ≡ true → (j : ℕ) → j < box_dims (checks_of f c) → AxisTold (walls_in (checks_of f c).shape (checks_of f c).walls) a j walls
  pub none_past : NoBitPast walls (box_dims (checks_of f c))
  pub no_bit_without_a_box : (j : ℕ) → boxed c.shape j ≡ false → (bit walls.low j ≡ false) × (bit walls.high j ≡ false)
  pub never_both : (j : ℕ) → (bit walls.low j && bit walls.high j) ≡ false
  pub in_clamped_dims :
      c.clamp ≡ Project → arms (checks_of f c) WORKSPACE ≡ true → (j : ℕ) → j < box_dims (checks_of f c) → ActionAsMovedInside f c t p aux prev a l j
      → (bit walls.low j || bit walls.high j) ≡ true → bit dims j ≡ true

-- ---- all of it

-- a limit that is not exceeded is not raised by `check_chunk`, and where none is exceeded nothing is
pub record ChunkTouched (f : Format) (c : FuseConfig) (t : Tables) (p aux rows : List Float) (k : Header) (room : ℕ) : Type 0 where
  pub workspace_touched : ChunkInside f c p aux rows k.horizon → raised WORKSPACE (trips_in (chunk_answer f c t p aux rows k room)) ≡ false
  pub edge_touched : (x y radius : Float) → c.shape ≡ Disc x y radius → ((i : ℕ) → i < k.horizon → OnTheEdge f (checks_of f c) x y radius (raw_row rows c.dim i)) → raised WORKSPACE (trips_in (chunk_answer f c t p aux rows k room)) ≡ false
  pub speed_touched : ChunkSlowEnough f c p aux rows k.horizon → raised SPEED (trips_in (chunk_answer f c t p aux rows k room)) ≡ false
  pub contact_touched : ChunkSlowInZone f c p aux rows k.horizon → raised CONTACT (trips_in (chunk_answer f c t p aux rows k room)) ≡ false
  pub accel_touched : ChunkBendsLittle f c p aux rows k.horizon → raised ACCEL (trips_in (chunk_answer f c t p aux rows k room)) ≡ false
  pub jerk_touched : ChunkJoltsLittle f c p aux rows k.horizon → raised JERK (trips_in (chunk_answer f c t p aux rows k room)) ≡ false
  pub reach_touched : ChunkInReach f c p aux rows → raised REACH (trips_in (chunk_answer f c t p aux rows k room)) ≡ false
  pub all_touched : ChunkWithin f c p aux rows k.horizon → trips_in (chunk_answer f c t p aux rows k room) ≡ 0

-- a limit that is not exceeded is not raised by `check_action`, and where none is exceeded nothing is
pub record ActionTouched (f : Format) (c : FuseConfig) (t : Tables) (p aux prev a : List Float) (room : ℕ) : Type 0 where
  pub workspace_touched : ActionInside f c p aux prev a → raised WORKSPACE (trips_in (action_answer f c t p aux prev a room)) ≡ false
  pub edge_touched : (x y radius : Float) → c.shape ≡ Disc x y radius → OnTheEdge f (checks_of f c) x y radius a → raised WORKSPACE (trips_in (action_answer f c t p aux prev a room)) ≡ false
  pub speed_touched : ActionSlowEnough f c p aux prev a → raised SPEED (trips_in (action_answer f c t p aux prev a room)) ≡ false
  pub contact_touched : ActionSlowInZone f c p aux prev a → raised CONTACT (trips_in (action_answer f c t p aux prev a room)) ≡ false
  pub reach_touched : ActionInReach f c p aux prev a → raised REACH (trips_in (action_answer f c t p aux prev a room)) ≡ false
  pub all_touched : ActionWithin f c p aux prev a → trips_in (action_answer f c t p aux prev a room) ≡ 0

-- d at the position q with the camera's message cam: either check answers and writes what it does with c at p with aux, whatever else it is lent
pub record SameChecks (f : Format) (t : Tables) (d : FuseConfig) (q cam : List Float) (c : FuseConfig) (p aux : List Float) : Type 0 where
  pub same_chunk_answer : (rows : List Float) (k : Header) (room : ℕ) → chunk_answer f d t q cam rows k room ≡ chunk_answer f c t p aux rows k room
  pub same_chunk_rows : (rows : List Float) (k : Header) (l : List Float) → chunk_out f d t q cam rows k l ≡ chunk_out f c t p aux rows k l
  pub same_action_answer : (prev a : List Float) (room : ℕ) → action_answer f d t q cam prev a room ≡ action_answer f c t p aux prev a room
  pub same_action_row : (prev a l : List Float) → action_out f d t q cam prev a l ≡ action_out f c t p aux prev a l

-- a call answers and writes what it does with CONTACT unarmed
abbrev pub AsUnarmed : Format → Tables → FuseConfig → (p aux : List Float) → Type 0
AsUnarmed f t c p aux = SameChecks f t (contact_unarmed c) p aux c p aux

-- where CONTACT is armed, each zone that counts is seen
abbrev pub ZonesSeen : FuseConfig → (p aux : List Float) → Type 0
ZonesSeen c p aux = raised CONTACT c.armed ≡ true → EachZone c.zones (λ radius speed i j. seen p aux i j ≡ true)

-- or none is
abbrev pub ZonesUnseen : FuseConfig → (p aux : List Float) → Type 0
ZonesUnseen c p aux = raised CONTACT c.armed ≡ true → EachZone c.zones (λ radius speed i j. seen p aux i j ≡ false)

-- the arm is seen inside a zone: the distance is finite, and at most the radius
pub record SeenInside (f : Format) (radius : Float) (i j : ℕ) (p aux : List Float) : Type 0 where
  pub is_seen : seen p aux i j ≡ true
  pub distance_finite : (dist f p (at aux i ∷ at aux j ∷ []) 2).sound ≡ true
  pub within : le (dist f p (at aux i ∷ at aux j ∷ []) 2).value radius ≡ true

-- a zone is seen in two calls from the same place, and round the same centre
pub record SeenAlike (i j : ℕ) (p aux q cam : List Float) : Type 0 where
  pub here : seen p aux i j ≡ true
  pub there : seen q cam i j ≡ true
  pub same_place : Agree 2 q p
  pub same_first : at cam i ≡ at aux i
  pub same_second : at cam j ≡ at aux j

-- how a zone stands in two calls: not seen at p and the arm seen inside it at q, not seen in either, or seen alike
abbrev pub Stands : Format → Float → (i j : ℕ) → (p aux q cam : List Float) → Type 0
Stands f radius i j p aux q cam = ((seen p aux i j ≡ false) × SeenInside f radius i j q cam) ⊎ (((seen p aux i j ≡ false) × (seen q cam i j ≡ false)) ⊎ SeenAlike i j p aux q cam)

-- where CONTACT is armed, so stands each zone that counts
abbrev pub ZonesStand : Format → FuseConfig → (p aux q cam : List Float) → Type 0
ZonesStand f c p aux q cam = raised CONTACT c.armed ≡ true → EachZone c.zones (λ radius speed i j. Stands f radius i j p aux q cam)

-- two positions with the same coordinates on the shared axes, both long enough, and beside each a message; numbers that are not finite stand beside both or neither
pub record StandsAlike (c : FuseConfig) (p aux q cam : List Float) : Type 0 where
  pub long_enough : c.pos_dim ≤ length p
  pub as_long : c.pos_dim ≤ length q
  pub same_axes : Agree (min c.dim c.pos_dim) q p
  pub finite_alike : (some_not_finite q || some_not_finite cam) ≡ (some_not_finite p || some_not_finite aux)

pub record Promised : Type 0 where
  pub chunk_may_touch : (f : Format) (c : FuseConfig) (t : Tables) (p aux rows : List Float) (k : Header) (room : ℕ) → ChunkTouched f c t p aux rows k room
  pub action_may_touch : (f : Format) (c : FuseConfig) (t : Tables) (p aux prev a : List Float) (room : ℕ) → ActionTouched f c t p aux prev a room
  pub chunk_walls :
      (f : Format) (c : FuseConfig) (t : Tables) (p aux rows : List Float) (k : Header) (l : List Float) (trips dims : ℕ) (speed : Float) (walls : WallMasks)
      → chunk_answer f c t p aux rows k (length l) ≡ passed_with trips dims speed walls → ChunkWalls f c t p aux rows k l dims walls
  pub action_walls :
      (f : Format) (c : FuseConfig) (t : Tables) (p aux prev a l : List Float) (trips dims : ℕ) (speed : Float) (walls : WallMasks)
      → action_answer f c t p aux prev a (length l) ≡ passed_with trips dims speed walls → ActionWalls f c t p aux prev a l dims walls
  -- WORKSPACE is raised exactly when it is armed and some row, as it came, is past the edge of a disc or has a shared coordinate beyond its walls
  pub chunk_workspace :
      (f : Format) (c : FuseConfig) (t : Tables) (p aux rows : List Float) (k : Header) (room trips dims : ℕ) (speed : Float) (walls : WallMasks)
      → chunk_answer f c t p aux rows k room ≡ passed_with trips dims speed walls
      → raised WORKSPACE trips ≡ (arms (checks_of f c) WORKSPACE && some (λ (i : ℕ). row_outside f (checks_of f c) (raw_row rows c.dim i)) k.horizon)
  pub action_workspace :
      (f : Format) (c : FuseConfig) (t : Tables) (p aux prev a : List Float) (room trips dims : ℕ) (speed : Float) (walls : WallMasks)
      → action_answer f c t p aux prev a room ≡ passed_with trips dims speed walls
      → raised WORKSPACE trips ≡ (arms (checks_of f c) WORKSPACE && row_outside f (checks_of f c) a)
  -- where it is armed, the distance of every row from the centre of a disc is finite, under either ClampMode and whatever else is outside: a call with another is refused
  pub chunk_distances :
      (f : Format) (c : FuseConfig) (t : Tables) (p aux rows : List Float) (k : Header) (room : ℕ) → accepts (chunk_answer f c t p aux rows k room) ≡ true → arms (checks_of f c) WORKSPACE ≡ true
      → (x y radius : Float) → c.shape ≡ Disc x y radius → (i : ℕ) → i < k.horizon → (from_centre f x y (raw_row rows c.dim i)).sound ≡ true
  pub action_distances :
      (f : Format) (c : FuseConfig) (t : Tables) (p aux prev a : List Float) (room : ℕ) → accepts (action_answer f c t p aux prev a room) ≡ true → arms (checks_of f c) WORKSPACE ≡ true
      → (x y radius : Float) → c.shape ≡ Disc x y radius → (from_centre f x y a).sound ≡ true
  -- CONTACT is raised exactly when it is armed and some step exceeds the step of some zone that the arm is inside
  pub chunk_contact :
      (f : Format) (c : FuseConfig) (t : Tables) (p aux rows : List Float) (k : Header) (room trips dims : ℕ) (speed : Float) (walls : WallMasks)
      → chunk_answer f c t p aux rows k room ≡ passed_with trips dims speed walls
      → raised CONTACT trips ≡ some (λ (z : ℕ). inside_at f (checks_of f c) p aux z && some_longer f (before_first f c p aux rows) rows c.dim (zone_found f (checks_of f c) p aux z).step k.horizon) (counted c.zones)
  pub action_contact :
      (f : Format) (c : FuseConfig) (t : Tables) (p aux prev a : List Float) (room trips dims : ℕ) (speed : Float) (walls : WallMasks)
      → action_answer f c t p aux prev a room ≡ passed_with trips dims speed walls
      → raised CONTACT trips ≡ some (λ (z : ℕ). inside_at f (checks_of f c) p aux z && lt (zone_found f (checks_of f c) p aux z).step (dist f a prev c.dim).value) (counted c.zones)
  -- where a leash is armed it is the least of the armed steps, and one of them
  pub chunk_leash : (f : Format) (c : FuseConfig) (t : Tables) (p aux rows : List Float) (k : Header) (room : ℕ) → accepts (chunk_answer f c t p aux rows k room) ≡ true → LeashTold f (checks_of f c) p aux
  pub action_leash : (f : Format) (c : FuseConfig) (t : Tables) (p aux prev a : List Float) (room : ℕ) → accepts (action_answer f c t p aux prev a room) ≡ true → LeashTold f (checks_of f c) p aux
  -- under Project each row goes out as that leash moves it, from the row that went out before it, the first from what stands before row 0
  pub chunk_moved :
      (f : Format) (c : FuseConfig) (t : Tables) (p aux rows : List Float) (k : Header) (l : List Float) (trips dims : ℕ) (speed : Float) (walls : WallMasks)
      → chunk_answer f c t p aux rows k (length l) ≡ passed_with trips dims speed walls → c.clamp ≡ Project → (i j : ℕ) → i < k.horizon → j < (checks_of f c).dim
      → at (chunk_out f c t p aux rows k l) (i * (checks_of f c).dim + j) ≡ at (moved_row f (checks_of f c) p aux (eqb i 0) (row_before (before_first f c p aux rows) (chunk_out f c t p aux rows k l) (checks_of f c).dim i) (raw_row rows (checks_of f c).dim i)).value j
  pub action_moved :
      (f : Format) (c : FuseConfig) (t : Tables) (p aux prev a l : List Float) (trips dims : ℕ) (speed : Float) (walls : WallMasks)
      → action_answer f c t p aux prev a (length l) ≡ passed_with trips dims speed walls → c.clamp ≡ Project → (j : ℕ) → j < (checks_of f c).dim
      → at (action_out f c t p aux prev a l) j ≡ at (moved_row f (checks_of f c) p aux true prev (padded a (checks_of f c).dim)).value j
  -- one that is not out of the workspace goes out as leash and reach alone move it
  pub chunk_inside_stays :
      (f : Format) (c : FuseConfig) (t : Tables) (p aux rows : List Float) (k : Header) (l : List Float) (trips dims : ℕ) (speed : Float) (walls : WallMasks)
      → chunk_answer f c t p aux rows k (length l) ≡ passed_with trips dims speed walls → c.clamp ≡ Project → (i j : ℕ) → i < k.horizon → j < (checks_of f c).dim
      → (out_of_workspace f (checks_of f c) (raw_row rows (checks_of f c).dim i)).value ≡ false
      → at (chunk_out f c t p aux rows k l) (i * (checks_of f c).dim + j) ≡ at (leashed_row f (checks_of f c) p aux (eqb i 0) (row_before (before_first f c p aux rows) (chunk_out f c t p aux rows k l) (checks_of f c).dim i) (raw_row rows (checks_of f c).dim i)).value j
  pub action_inside_stays :
      (f : Format) (c : FuseConfig) (t : Tables) (p aux prev a l : List Float) (trips dims : ℕ) (speed : Float) (walls : WallMasks)
      → action_answer f c t p aux prev a (length l) ≡ passed_with trips dims speed walls → c.clamp ≡ Project → (j : ℕ) → j < (checks_of f c).dim
      → (out_of_workspace f (checks_of f c) a).value ≡ false
      → at (action_out f c t p aux prev a l) j ≡ at (leashed_row f (checks_of f c) p aux true prev (padded a (checks_of f c).dim)).value j
  -- with more zones the leash is not longer
  pub chunk_more_zones :
      (f : Format) (c : FuseConfig) (t : Tables) (w : Zones) (p aux : List Float) → HasZonesOf w c.zones → (rows : List Float) (k : Header) (room : ℕ)
      → accepts (chunk_answer f c t p aux rows k room) ≡ true → accepts (chunk_answer f (zoned_by c w) t p aux rows k room) ≡ true → LeashNotLonger f (checks_of f c) (checks_of f (zoned_by c w)) p aux
  pub action_more_zones :
      (f : Format) (c : FuseConfig) (t : Tables) (w : Zones) (p aux : List Float) → HasZonesOf w c.zones → (prev a : List Float) (room : ℕ)
      → accepts (action_answer f c t p aux prev a room) ≡ true → accepts (action_answer f (zoned_by c w) t p aux prev a room) ≡ true → LeashNotLonger f (checks_of f c) (checks_of f (zoned_by c w)) p aux
  -- what stands past the count of zones is not read
  pub unread_zones : (f : Format) (t : Tables) (c : FuseConfig) (w : Zones) (p aux : List Float) → SameZones c.zones w → SameChecks f t (zoned_by c w) p aux c p aux
  -- without a zone, under either choice, the checks answer and write what they do with CONTACT unarmed
  pub no_contact_as_unarmed : (f : Format) (t : Tables) (c : FuseConfig) (choice : AbsentCamera) (p aux : List Float) → NoZones c.zones → AsUnarmed f t (absent_by c choice) p aux
  -- and so they do, under NoZone, where no zone is seen
  pub unseen_as_unarmed :
      (f : Format) (t : Tables) (c : FuseConfig) (p aux : List Float)
      → c.absent_camera ≡ absent.NoZone → ZonesUnseen c p aux → AsUnarmed f t c p aux
  -- under Slow they answer and write, where a zone is not seen, what they do for an arm that is seen inside it and stands to the others alike
  pub unseen_as_inside :
      (f : Format) (t : Tables) (c : FuseConfig) (p aux q cam : List Float)
      → c.absent_camera ≡ absent.Slow → ZonesStand f c p aux q cam → StandsAlike c p aux q cam → SameChecks f t c q cam c p aux
  -- where all are seen the choice changes nothing
  pub choice_only_where_unseen : (f : Format) (t : Tables) (c : FuseConfig) (choice : AbsentCamera) (p aux : List Float) → ZonesSeen c p aux → SameChecks f t (absent_by c choice) p aux c p aux
  pub chunk_raised : (f : Format) (s : Checks) (p aux rows l : List Float) (h : ℕ) → ChunkRaised f s p aux rows l h
  pub action_raised : (f : Format) (s : Checks) (p aux prev a : List Float) → ActionRaised f s p aux prev a
  pub walls_touched : (w : Walls) (a : List Float) (j : ℕ) → WallsTouched w a j
  pub edge_touched : EdgeTouched
  pub inside_stays : InsideStays
  pub pulled_first :
      (f : Format) (s : Checks) (x y radius : Float) (a : List Float) → arms s WORKSPACE ≡ true → s.shape ≡ Disc x y radius → lt radius (from_centre f x y a).value ≡ true → PulledFirst f s x y radius a
  pub unarmed_stays : (f : Format) (s : Checks) (a : List Float) → arms s WORKSPACE ≡ false → WorkspaceUnarmed f s a
  pub box_as_before : (f : Format) (s : Checks) (a : List Float) → s.shape ≡ Box → BoxAsBefore f s a
  pub margin_unread : MarginUnread
  pub no_contact : NoContact
  pub outside_radius : OutsideRadius
  pub one_zone : OneZone
  pub each_asked : EachAsked
  pub zone_told : (f : Format) (s : Checks) (p aux : List Float) (k : ℕ) → ZoneTold f s p aux k
  pub seen_exactly : (p aux : List Float) (i j : ℕ) → SeenExactly p aux i j
  pub no_zone_as_rust : NoZoneAsRust
  pub unseen_is_inside : UnseenIsInside
  pub unseen_as_empty : UnseenAsEmpty
  pub no_zone_no_leash : NoZoneNoLeash
  pub more_at_the_end : MoreAtTheEnd
  pub unarmed_action : UnarmedAction
  pub unarmed_chunk : UnarmedChunk
