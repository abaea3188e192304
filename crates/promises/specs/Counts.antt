-- The number that C is given for a count is the table's for the count as it came. A count that its field cannot hold is cut to the field's largest, and each
-- condition of the table says of that what it says of the count; where the table accepts the count itself, the boundary has given 255. A zone's channels are judged there by
-- themselves, so that a pair which its fields cannot hold is 255 also where another zone has it.
use Rattle.envelope.specs.declared.Zone.{Zone}
use Rattle.std.specs.Prelude.{ℕ, ◌+◌, ◌*◌, ◌≤◌, ◌<◌, min, ◌≡◌, Bool, true, ◌||◌, List, [], ◌∷◌, leb, ltb, Float, Option}
use Rattle.refusal.specs.Order.{refusal}
use Rattle.checked.specs.Each.{at, all, every}
use Rattle.chunk.specs.declared.Header.{Header}
use Rattle.chunk.specs.Refusals.{held_reasons}
use Rattle.chunk.specs.Of.{cleared_of}
use Rattle.window.specs.Rule.{flag}
use Rattle.window.specs.Answer.{out_of_size}
use Rattle.conformal.specs.Refusals.{named, without_stall_of, sizes_ok, features_ok}
use Rattle.envelope.specs.Slots.{counted, zone_with}
use Rattle.envelope.specs.Promises.{SameZones}
use Rattle.envelope.specs.Refusals.{counts_ok, zones_fit}
use Rattle.envelope.specs.declared.Zones.{Zones}
use Rattle.envelope.specs.declared.AbsentCamera.TheVariants as absent
use Rattle.envelope.specs.declared.Gripper.TheVariants as gripper
use Rattle.workspace.specs.declared.Shape.TheVariants.{Box, Disc}
use Rattle.layout.specs.Places.{count, in16}
use Rattle.layout.specs.Chunk.{chunk_of, header_flat, unheld}
use Rattle.layout.specs.Trail.{trail_of}
use Rattle.layout.specs.Config.{brake_of, calibration_of, zones_of, config_of, zones_held}

-- a trail: its head and its length
abbrev pub TrailCounts : Type 0
TrailCounts = (l : List Float) (c : List ℕ) → out_of_size (trail_of l c) ≡ (ltb 31 (count c 0) || ltb 32 (count c 1))

-- the gate: its terms and their features
abbrev pub GateCounts : Type 0
GateCounts = (n : List Float) (c : List ℕ) → sizes_ok (calibration_of n c) ≡ every (leb (count c 24) 8 ∷ named (count c 23) ∷ all (λ (i : ℕ). leb (count c 24) i || named (count c (12 + i))) 8 ∷ [])

-- and Stall among them, where 1 does not apply
abbrev pub FeatureCounts : Type 0
FeatureCounts = (n : List Float) (c : List ℕ) → sizes_ok (calibration_of n c) ≡ true → features_ok (calibration_of n c) ≡ every (without_stall_of (count c 23) ∷ all (λ (i : ℕ). leb (count c 24) i || without_stall_of (count c (12 + i))) 8 ∷ [])

-- the substeps, the committed and the braking steps
abbrev pub StepCounts : Type 0
StepCounts = (n : List Float) (c : List ℕ) → counts_ok (brake_of n c) ≡ every (leb 1 (count c 8) ∷ leb (count c 8) 64 ∷ leb (count c 9) 64 ∷ leb ((count c 9 + count c 10) * count c 8) 4096 ∷ [])

-- the numbers and the counts of zone k: the first zone's stand among the other fields, the further ones' at the arrays' ends
abbrev pub radius_at : List Float → ℕ → Float
radius_at n = at (at n 9 ∷ at n 44 ∷ at n 46 ∷ at n 48 ∷ [])

abbrev pub speed_at : List Float → ℕ → Float
speed_at n = at (at n 10 ∷ at n 45 ∷ at n 47 ∷ at n 49 ∷ [])

abbrev pub first_at : List ℕ → ℕ → ℕ
first_at c = count (count c 6 ∷ count c 27 ∷ count c 29 ∷ count c 31 ∷ [])

abbrev pub second_at : List ℕ → ℕ → ℕ
second_at c = count (count c 7 ∷ count c 28 ∷ count c 30 ∷ count c 32 ∷ [])

-- the list of zones as its counts came, none of them cut
abbrev pub as_came : List Float → List ℕ → ℕ → Option Zone
as_came n c k = zone_with (first_at c k) (second_at c k) (radius_at n k) (speed_at n k)

abbrev pub zones_as_came : List Float → List ℕ → Zones
zones_as_came n c = record { count = count c 5; list = as_came n c 0 ∷ as_came n c 1 ∷ as_came n c 2 ∷ as_came n c 3 ∷ [] }

-- how many zones there are: whether they are over four, and how many count
pub record ZoneCounts (n : List Float) (c : List ℕ) : Type 0 where
  pub over_four : leb (zones_of n c).count 4 ≡ leb (count c 5) 4
  pub as_many : counted (zones_of n c) ≡ min (count c 5) 4

-- the channels and the pairs of those that count, where each zone's channels are held by their fields or are refused by themselves
abbrev pub ChannelCounts : Type 0
ChannelCounts = (n : List Float) (c : List ℕ) → zones_held c ≡ true → zones_fit (zones_of n c) (count c 21) ≡ zones_fit (zones_as_came n c) (count c 21)

-- other arrays, with the same counts of zones and of aux numbers and the same numbers and channels of each zone that counts
pub record SameCountedZones (n : List Float) (c : List ℕ) (m : List Float) (d : List ℕ) : Type 0 where
  pub same_count : count d 5 ≡ count c 5
  pub same_aux : count d 21 ≡ count c 21
  pub same_radius : (k : ℕ) → k < min (count c 5) 4 → radius_at m k ≡ radius_at n k
  pub same_speed : (k : ℕ) → k < min (count c 5) 4 → speed_at m k ≡ speed_at n k
  pub same_first : (k : ℕ) → k < min (count c 5) 4 → first_at d k ≡ first_at c k
  pub same_second : (k : ℕ) → k < min (count c 5) 4 → second_at d k ≡ second_at c k

-- what stands past the count is neither held against a field nor read
pub record UnreadPastTheCount (n : List Float) (c : List ℕ) (m : List Float) (d : List ℕ) : Type 0 where
  pub same_fit : zones_held d ≡ zones_held c
  pub same_zones : SameZones (zones_of n c) (zones_of m d)

-- the choice for an absent camera: 0, which a struct of zeros has, is Slow, and 1 NoZone
pub record ChoiceCounts (n : List Float) (c : List ℕ) : Type 0 where
  pub zero_is_slow : count c 26 ≡ 0 → (config_of n c).absent_camera ≡ absent.Slow
  pub one_is_no_zone : count c 26 ≡ 1 → (config_of n c).absent_camera ≡ absent.NoZone

-- the shape: 0, which a struct of zeros has, is the box, whatever stands for the centre and the radius, and 1 the disc that they give
pub record ShapeCounts (n : List Float) (c : List ℕ) : Type 0 where
  pub zero_is_a_box : count c 33 ≡ 0 → (config_of n c).shape ≡ Box
  pub one_is_a_disc : count c 33 ≡ 1 → (config_of n c).shape ≡ Disc (at n 50) (at n 51) (at n 52)

-- the mode of the gripper: 0, which a struct of zeros has, is the Rust's, and 1 the one that has the last command
pub record GripperCounts (n : List Float) (c : List ℕ) : Type 0 where
  pub zero_is_to_zero : count c 34 ≡ 0 → (config_of n c).gripper ≡ gripper.ToZero
  pub one_is_last_command : count c 34 ≡ 1 → (config_of n c).gripper ≡ gripper.LastCommand

-- a held chunk: its sizes, each cut to its field
abbrev pub cut : Header → Header
cut k = record { seq = k.seq; t_emit = k.t_emit; horizon = in16 k.horizon; dim = in16 k.dim; exec_steps = in16 k.exec_steps }

abbrev pub HeaderCounts : Type 0
HeaderCounts = (l : List Float) (k : Header) → refusal (held_reasons l (cut k)) ≡ refusal (held_reasons l k)

-- a header that is left as it came is that of the entry's answer, where its counts fit
abbrev pub HeaderKept : Type 0
HeaderKept = (l : List Float) (s t h d e : ℕ) (f : Bool) → s ≤ 4294967295 → t ≤ 4294967295 → h ≤ 65535 → d ≤ 65535 → e ≤ 65535 → header_flat (chunk_of l (s ∷ t ∷ h ∷ d ∷ e ∷ flag f ∷ [])) ≡ s ∷ t ∷ h ∷ d ∷ e ∷ flag f ∷ []

-- and so it is after a reset
abbrev pub HeaderLetGo : Type 0
HeaderLetGo = (l : List Float) (s t h d e f : ℕ) → s ≤ 4294967295 → t ≤ 4294967295 → h ≤ 65535 → d ≤ 65535 → e ≤ 65535 → header_flat (cleared_of (chunk_of l (s ∷ t ∷ h ∷ d ∷ e ∷ f ∷ []))) ≡ unheld (s ∷ t ∷ h ∷ d ∷ e ∷ f ∷ [])
