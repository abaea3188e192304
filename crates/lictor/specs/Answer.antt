-- What C is given of an answer: the number of the table (R0), 0 for an accepted call, and each place as it stands at exit. A refusal leaves the places as they were.
use Rattle.workspace.specs.declared.WallMasks.{WallMasks}
use Rattle.refusal.specs.declared.Refusal.{Refusal}
use Rattle.std.specs.Prelude.{ℕ, ◌≡◌, Bool, List, [], ◌∷◌, eqb, Float, if◌then◌else◌, Err, Ok, Result}
use Rattle.chunk.specs.declared.Filled.{Filled}
use Rattle.window.specs.declared.Recorded.{Recorded}
use Rattle.window.specs.Rule.{flag}
use Rattle.conformal.specs.declared.Scored.{Scored}
use Rattle.envelope.specs.declared.Derived.{Derived}
use Rattle.tier0.specs.declared.Tier0Out.{Tier0Out}
use Rattle.tier1.specs.declared.Tier1Rt.{Tier1Rt}
use Rattle.tier1.specs.declared.Featured.{Featured}
use Rattle.tier1.specs.declared.Cleared.{Cleared}
use Rattle.brake.specs.declared.BrakeOut.{BrakeOut}
use Rattle.brake.specs.declared.Ran.{Ran}
use Rattle.layout.specs.Chunk.{header_flat, unheld}
use Rattle.layout.specs.Trail.{trail_marks}
use Rattle.layout.specs.State.{held_marks}
use Rattle.layout.specs.Scores.{scores_flat, marks_flat}
use Rattle.layout.specs.Config.{derived_flat}

-- the boundary's own number comes first: 255 where a code or a flag is none of its kind, or a count does not fit its field and the table does not refuse it
abbrev pub fitting : Bool → ℕ → ℕ
fitting fits n = if fits then n else 255

-- what an accepted call writes; a refused one leaves what was there
abbrev pub written : {A : Type 0} → ℕ → A → A → A
written n new old = if eqb n 0 then new else old

-- an accepted answer is given as `given` relates it to what its place holds then, and 0 is returned; of a refusal its number is
unfoldable pub Given : {A B : Type 0} → (A → B → Type 0) → Result A Refusal → ℕ → B → B → Type 0
Given given (Ok x) r old new = (r ≡ 0) × given x new
Given given (Err e) r old new = (r ≡ e.number) × (new ≡ old)

-- ---- fmath (R1): a number

unfoldable pub number_of : Result Float Refusal → ℕ
number_of (Ok x) = 0
number_of (Err r) = r.number

unfoldable pub value_of : Result Float Refusal → Float → Float
value_of (Ok x) old = x
value_of (Err r) old = old

-- r is returned, and the place that held `old` holds `new`
pub record NumberGiven (a : Result Float Refusal) (r : ℕ) (old new : Float) : Type 0 where
  pub number : r ≡ number_of a
  pub value : new ≡ value_of a old

-- ---- chunk (R2): a buffer, in 512 numbers and 6 counts

pub record FilledGiven (a : Filled) (r : ℕ) (d₀ d : List Float) (h₀ h : List ℕ) : Type 0 where
  pub number : r ≡ a.number
  pub numbers : d ≡ written a.number a.buf.«data» d₀
  pub header : h ≡ written a.number (header_flat a.buf) h₀

-- ---- window (R3): a mask

unfoldable pub mask_number : Result ℕ Refusal → ℕ
mask_number (Ok m) = 0
mask_number (Err r) = r.number

unfoldable pub mask_value : Result ℕ Refusal → ℕ → ℕ
mask_value (Ok m) old = m
mask_value (Err r) old = old

pub record MaskGiven (a : Result ℕ Refusal) (r old new : ℕ) : Type 0 where
  pub number : r ≡ mask_number a
  pub value : new ≡ mask_value a old

-- a trail is given in 256 numbers and 2 counts

pub record RecordedGiven (a : Recorded) (r : ℕ) (l₀ l : List Float) (m₀ m : List ℕ) : Type 0 where
  pub number : r ≡ a.number
  pub numbers : l ≡ written a.number a.trail.buf l₀
  pub marks : m ≡ written a.number (trail_marks a.trail) m₀

-- a count of a trail's samples
unfoldable pub count_number : Result ℕ Refusal → ℕ
count_number (Ok n) = 0
count_number (Err r) = r.number

unfoldable pub count_value : Result ℕ Refusal → ℕ → ℕ
count_value (Ok n) old = n
count_value (Err r) old = old

pub record CountGiven (a : Result ℕ Refusal) (r old new : ℕ) : Type 0 where
  pub number : r ≡ count_number a
  pub len : new ≡ count_value a old

-- 1 where a trail is empty, else 0
unfoldable pub emptiness_number : Result Bool Refusal → ℕ
emptiness_number (Ok b) = 0
emptiness_number (Err r) = r.number

unfoldable pub emptiness_value : Result Bool Refusal → ℕ → ℕ
emptiness_value (Ok b) old = flag b
emptiness_value (Err r) old = old

pub record EmptinessGiven (a : Result Bool Refusal) (r old new : ℕ) : Type 0 where
  pub number : r ≡ emptiness_number a
  pub empty : new ≡ emptiness_value a old

-- ---- envelope (R4): what is derived, in 29 numbers

pub record DerivedGiven (n : ℕ) (d : Derived) (r : ℕ) (old new : List Float) : Type 0 where
  pub number : r ≡ n
  pub numbers : new ≡ written n (derived_flat d) old

-- ---- tier0 (R5): trips, clamped_dims and the masks of the low and the high walls in 4 counts, a speed, and the output

unfoldable pub check_number : Result Tier0Out Refusal → ℕ
check_number (Ok o) = 0
check_number (Err r) = r.number

unfoldable pub check_marks : Result Tier0Out Refusal → List ℕ → List ℕ
check_marks (Ok o) old = o.trips ∷ o.clamped_dims ∷ o.walls.low ∷ o.walls.high ∷ []
check_marks (Err r) old = old

unfoldable pub check_speed : Result Tier0Out Refusal → Float → Float
check_speed (Ok o) old = o.peak_speed
check_speed (Err r) old = old

-- r is returned, and the places of the marks and of the speed hold m and x
pub record CheckPut (a : Result Tier0Out Refusal) (r : ℕ) (m₀ m : List ℕ) (x₀ x : Float) : Type 0 where
  pub number : r ≡ check_number a
  pub marks : m ≡ check_marks a m₀
  pub speed : x ≡ check_speed a x₀

-- a check of a configuration whose counts may not fit; the entry leaves l in the output
pub record CheckGiven (fits : Bool) (a : Result Tier0Out Refusal) (l : List Float) (r : ℕ) (m₀ m : List ℕ) (x₀ x : Float) (o₀ o : List Float) : Type 0 where
  pub number : r ≡ fitting fits (check_number a)
  pub marks : m ≡ (if fits then check_marks a m₀ else m₀)
  pub speed : x ≡ (if fits then check_speed a x₀ else x₀)
  pub output : o ≡ (if fits then l else o₀)

-- ---- tier1 (R6): the chunk before, whose header stays where no chunk came, the held features with their 2 counts, and the scores; the trail is only read

pub record FeaturedGiven (fits came : Bool) (a : Featured) (r : ℕ) (d₀ d : List Float) (h₀ h : List ℕ) (f₀ f : List Float) (c₀ c : List ℕ) (s₀ s : List Float) (m₀ m : List ℕ) : Type 0 where
  pub number : r ≡ fitting fits a.refusal.number
  pub rows : d ≡ written (fitting fits a.refusal.number) a.rt.prev.«data» d₀
  pub header : h ≡ written (fitting fits a.refusal.number) (if came then header_flat a.rt.prev else h₀) h₀
  pub held : f ≡ written (fitting fits a.refusal.number) a.rt.held f₀
  pub kept : c ≡ written (fitting fits a.refusal.number) (held_marks a.rt.have_prev a.rt.held_valid) c₀
  pub scores : s ≡ written (fitting fits a.refusal.number) (scores_flat a.scores) s₀
  pub marks : m ≡ written (fitting fits a.refusal.number) (marks_flat a.scores) m₀

-- a state of tier 1, laid out in its six arrays
pub record StateLaid (rt : Tier1Rt) (d : List Float) (h : List ℕ) (p : List Float) (t : List ℕ) (f : List Float) (c : List ℕ) : Type 0 where
  pub rows : d ≡ rt.prev.«data»
  pub header : h ≡ header_flat rt.prev
  pub trail : p ≡ rt.trail.buf
  pub samples : t ≡ trail_marks rt.trail
  pub held : f ≡ rt.held
  pub kept : c ≡ held_marks rt.have_prev rt.held_valid

-- a state that is reset, the trail with it; of the chunk before all but whether it is held stays
pub record ClearedGiven (fits : Bool) (a : Cleared) (r : ℕ) (d₀ d : List Float) (h₀ h : List ℕ) (p₀ p : List Float) (t₀ t : List ℕ) (f₀ f : List Float) (c₀ c : List ℕ) : Type 0 where
  pub number : r ≡ fitting fits a.refusal.number
  pub rows : d ≡ written (fitting fits a.refusal.number) a.rt.prev.«data» d₀
  pub header : h ≡ written (fitting fits a.refusal.number) (unheld h₀) h₀
  pub trail : p ≡ written (fitting fits a.refusal.number) a.rt.trail.buf p₀
  pub samples : t ≡ written (fitting fits a.refusal.number) (trail_marks a.rt.trail) t₀
  pub held : f ≡ written (fitting fits a.refusal.number) a.rt.held f₀
  pub kept : c ≡ written (fitting fits a.refusal.number) (held_marks a.rt.have_prev a.rt.held_valid) c₀

-- ---- brake (R7): count and feasible in 2 counts, margin and stop distance in 2 numbers, the place of a refusal, and the slacks

unfoldable pub forecast_number : Result BrakeOut Refusal → ℕ
forecast_number (Ok o) = 0
forecast_number (Err r) = r.number

unfoldable pub forecast_marks : Result BrakeOut Refusal → List ℕ → List ℕ
forecast_marks (Ok o) old = o.count ∷ flag o.feasible ∷ []
forecast_marks (Err r) old = old

unfoldable pub forecast_distances : Result BrakeOut Refusal → List Float → List Float
forecast_distances (Ok o) old = o.margin ∷ o.stop_dist ∷ []
forecast_distances (Err r) old = old

unfoldable pub forecast_place : Result BrakeOut Refusal → ℕ → ℕ
forecast_place (Ok o) old = old
forecast_place (Err r) old = r.place

pub record ForecastPut (a : Result BrakeOut Refusal) (r : ℕ) (m₀ m : List ℕ) (x₀ x : List Float) (p₀ p : ℕ) : Type 0 where
  pub number : r ≡ forecast_number a
  pub marks : m ≡ forecast_marks a m₀
  pub distances : x ≡ forecast_distances a x₀
  pub place : p ≡ forecast_place a p₀

-- a forecast of a configuration whose counts may not fit; the entry leaves l in the slacks
pub record ForecastGiven (fits : Bool) (a : Result BrakeOut Refusal) (l : List Float) (r : ℕ) (m₀ m : List ℕ) (x₀ x : List Float) (p₀ p : ℕ) (s₀ s : List Float) : Type 0 where
  pub number : r ≡ fitting fits (forecast_number a)
  pub marks : m ≡ (if fits then forecast_marks a m₀ else m₀)
  pub distances : x ≡ (if fits then forecast_distances a x₀ else x₀)
  pub place : p ≡ (if fits then forecast_place a p₀ else p₀)
  pub slacks : s ≡ (if fits then l else s₀)

-- a run under one setpoint: a count and a margin, and the place of a refusal
unfoldable pub ran_number : Result Ran Refusal → ℕ
ran_number (Ok o) = 0
ran_number (Err r) = r.number

unfoldable pub ran_count : Result Ran Refusal → ℕ → ℕ
ran_count (Ok o) old = o.count
ran_count (Err r) old = old

unfoldable pub ran_margin : Result Ran Refusal → Float → Float
ran_margin (Ok o) old = o.margin
ran_margin (Err r) old = old

unfoldable pub ran_place : Result Ran Refusal → ℕ → ℕ
ran_place (Ok o) old = old
ran_place (Err r) old = r.place

pub record RanPut (a : Result Ran Refusal) (r n₀ n : ℕ) (x₀ x : Float) (p₀ p : ℕ) : Type 0 where
  pub number : r ≡ ran_number a
  pub count : n ≡ ran_count a n₀
  pub margin : x ≡ ran_margin a x₀
  pub place : p ≡ ran_place a p₀

-- of a configuration whose counts may not fit; the entry leaves l in the slacks, q in the position and w in the velocity
pub record RanGiven (fits : Bool) (a : Result Ran Refusal) (l q w : List Float) (r n₀ n : ℕ) (x₀ x : Float) (p₀ p : ℕ) (s₀ s q₀ q₁ w₀ w₁ : List Float) : Type 0 where
  pub number : r ≡ fitting fits (ran_number a)
  pub count : n ≡ (if fits then ran_count a n₀ else n₀)
  pub margin : x ≡ (if fits then ran_margin a x₀ else x₀)
  pub place : p ≡ (if fits then ran_place a p₀ else p₀)
  pub slacks : s ≡ (if fits then l else s₀)
  pub position : q₁ ≡ (if fits then q else q₀)
  pub velocity : w₁ ≡ (if fits then w else w₀)

-- a row that brakes or holds, and the masks of the walls in 2 counts
unfoldable pub sent_number : Result WallMasks Refusal → ℕ
sent_number (Ok walls) = 0
sent_number (Err r) = r.number

unfoldable pub sent_marks : Result WallMasks Refusal → List ℕ → List ℕ
sent_marks (Ok walls) old = walls.low ∷ walls.high ∷ []
sent_marks (Err r) old = old

pub record SentPut (a : Result WallMasks Refusal) (r : ℕ) (m₀ m : List ℕ) : Type 0 where
  pub number : r ≡ sent_number a
  pub marks : m ≡ sent_marks a m₀

-- of a configuration whose counts may not fit; the entry leaves l in the output
pub record SentGiven (fits : Bool) (a : Result WallMasks Refusal) (l : List Float) (r : ℕ) (m₀ m : List ℕ) (o₀ o : List Float) : Type 0 where
  pub number : r ≡ fitting fits (sent_number a)
  pub marks : m ≡ (if fits then sent_marks a m₀ else m₀)
  pub output : o ≡ (if fits then l else o₀)

-- ---- conformal (R8): scores, a verdict, a time bin

pub record ScoredGiven (fits : Bool) (a : Scored) (r : ℕ) (s₀ s : List Float) (m₀ m : List ℕ) : Type 0 where
  pub number : r ≡ fitting fits a.refusal.number
  pub scores : s ≡ written (fitting fits a.refusal.number) (scores_flat a.scores) s₀
  pub marks : m ≡ written (fitting fits a.refusal.number) (marks_flat a.scores) m₀

unfoldable pub verdict_number : Result Bool Refusal → ℕ
verdict_number (Err r) = r.number
verdict_number (Ok b) = 0

unfoldable pub verdict_value : Result Bool Refusal → ℕ → ℕ
verdict_value (Err r) old = old
verdict_value (Ok b) old = flag b

pub record VerdictGiven (fits : Bool) (a : Result Bool Refusal) (r old new : ℕ) : Type 0 where
  pub number : r ≡ fitting fits (verdict_number a)
  pub trips : new ≡ (if fits then verdict_value a old else old)

unfoldable pub bin_number : Result ℕ Refusal → ℕ
bin_number (Err r) = r.number
bin_number (Ok b) = 0

unfoldable pub bin_value : Result ℕ Refusal → ℕ → ℕ
bin_value (Err r) old = old
bin_value (Ok b) old = b

pub record BinGiven (a : Result ℕ Refusal) (r old new : ℕ) : Type 0 where
  pub number : r ≡ bin_number a
  pub bin : new ≡ bin_value a old
