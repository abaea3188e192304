-- What the brake's entries judge (R7), and what they answer.
use Rattle.std.specs.Prelude.{ℕ, Bool, not, ◌&&◌, ◌||◌, List, [], ◌∷◌, ◌++◌, ltb, eqb, length, Float, if◌then◌else◌, Err, Ok, Result}
use Rattle.std.specs.Float.{Format}
use Rattle.refusal.specs.declared.Refusal.{Refusal}
use Rattle.refusal.specs.Order.{Judged, width, short, not_finite, computed, number_of, ◌when◌, refusal, refused_for, answer_by, left_by}
use Rattle.fmath.specs.Answer.{some_not_finite, some_lent_not_finite}
use Rattle.checked.specs.Each.{at, over}
use Rattle.checked.specs.Checked.{Checked}
use Rattle.chunk.specs.Refusals.{chunk_reasons}
use Rattle.chunk.specs.declared.Header.{Header}
use Rattle.conformal.specs.Rule.{Tables}
use Rattle.envelope.specs.Refusals.{config_judged}
use Rattle.envelope.specs.declared.FuseConfig.{FuseConfig}
use Rattle.envelope.specs.declared.Gripper.{Gripper}
use Rattle.workspace.specs.declared.WallMasks.{WallMasks}
use Rattle.course.specs.Forecast.{Forecast, place_of, margin_of, feasible_of, written_of}
use Rattle.brake.specs.declared.BrakeOut.{BrakeOut}
use Rattle.brake.specs.Rule.{live, walls_at, forecast_of, brake_row, hold_row, takes_last, sent_row, sent_masks}

-- ---- the forecast

-- 11: position or velocity below pos_dim, or the slack entries below the number to be written
unfoldable pub too_short : ℕ → ℕ → ℕ → ℕ → ℕ → Bool
too_short pos-dim p v count room = ltb p pos-dim || ltb v pos-dim || ltb room count

-- an answer or, with its place, the first number that isn't finite
abbrev pub placed_or : {A : Type 0} → (Refusal → A) → A → Forecast → A
placed_or refused answer t = if eqb (place_of t) 0 then answer else refused (record { number = number_of computed; place = place_of t })

-- a forecast that is accepted, with what it foresees
abbrev pub forecast_with : ℕ → Float → Bool → Float → Result BrakeOut Refusal
forecast_with n margin feasible stop = Ok (record { count = n; margin = margin; feasible = feasible; stop_dist = stop })

-- what a forecast comes to
unfoldable pub outcome : Forecast → Result BrakeOut Refusal
outcome t = placed_or Err (forecast_with t.count (margin_of t) (feasible_of t) t.stop.value) t

-- that, by the number of the refusal, 0 where there is none
abbrev pub decided_at : {A : Type 0} → (Refusal → A) → A → ℕ → A
decided_at refused comesTo k = if eqb k 0 || eqb k (number_of computed) then comesTo else refused (refused_for k)

abbrev pub answer_at : ℕ → Forecast → Result BrakeOut Refusal
answer_at k t = decided_at Err (outcome t) k

-- the entries before the failing place are written, and none under another refusal
abbrev pub slacks_at : ℕ → Forecast → List Float → List Float
slacks_at k t l = if eqb k 0 || eqb k (number_of computed) then written_of t l else l

module _ (f : Format) (c : FuseConfig) (p v rows : List Float) (k : Header) (from : ℕ) where
  abbrev pub plan : Forecast
  plan = forecast_of f c p v rows k from

  -- 10, 11 and 12, where the entries have so much room
  abbrev pub lent_judged : ℕ → List Judged
  lent_judged room =
      (width when not (eqb k.dim c.dim))
      ∷ (short when too_short c.pos_dim (length p) (length v) plan.count room)
      ∷ (not_finite when some_lent_not_finite (p ∷ v ∷ rows ∷ [])) ∷ []

module _ (f : Format) (c : FuseConfig) (t : Tables) (p v rows : List Float) (k : Header) (from : ℕ) where
  abbrev planned : Forecast
  planned = plan f c p v rows k from

  unfoldable pub forecast_refusal : ℕ → ℕ
  forecast_refusal room = refusal (config_judged f c t ++ (chunk_reasons k (length rows) ++ (lent_judged f c p v rows k from room ++ (computed when not (eqb (place_of planned) 0) ∷ []))))

  unfoldable pub forecast_answer : ℕ → Result BrakeOut Refusal
  forecast_answer room = answer_at (forecast_refusal room) planned

  unfoldable pub forecast_slacks : List Float → List Float
  forecast_slacks l = slacks_at (forecast_refusal (length l)) planned l

-- ---- brake and hold

-- the walls that moved the row, where the refusal is 0
abbrev pub sent_at : ℕ → WallMasks → Result WallMasks Refusal
sent_at n m = answer_by Err (Ok m) n

-- the first k numbers of a row over the output, where the refusal is 0; the rest stays
abbrev pub row_at : ℕ → List Float → ℕ → List Float → List Float
row_at n row k l = left_by l (over (at row) l k) n

-- of the last command, in the mode in which it is an argument: 11 where it has fewer numbers than dim, 12 where one of them is not finite, read or not
unfoldable pub last_short : Gripper → ℕ → ℕ → Bool
last_short g dim given = takes_last g && ltb given dim

unfoldable pub last_unfit : Gripper → List Float → Bool
last_unfit g last = takes_last g && some_not_finite last

-- 11 and 12, where the output has so much room, the last command so many numbers, and some lent number is not finite, or none
abbrev pub row_lent : FuseConfig → Bool → ℕ → ℕ → List Judged
row_lent c unfit room given = (short when (ltb room c.dim || last_short c.gripper c.dim given)) ∷ (not_finite when unfit) ∷ []

-- the walls that move the row of brake or hold; an axis past pos_dim may be moved to its wall, too, and has no bit
unfoldable pub masks_sent : Format → FuseConfig → List Float → WallMasks
masks_sent f c p = sent_masks c.kind (walls_at f c) p (live c)

-- a row as it is sent: of the last command nothing is computed, so that 13 is the row's
abbrev pub sending : FuseConfig → List Float → Checked (List Float) → Checked (List Float)
sending c last x = record { value = sent_row c.gripper c.kind c.pos_dim last x.value c.dim; sound = x.sound }

-- the row that brakes at a configuration
abbrev pub brake_made : Format → FuseConfig → List Float → List Float → Checked (List Float)
brake_made f c p v = brake_row f c.kind c.limits.a_max c.limits.dt (walls_at f c) p v c.dim

unfoldable pub brake_sent : Format → FuseConfig → List Float → List Float → List Float → Checked (List Float)
brake_sent f c p v last = sending c last (brake_made f c p v)

module _ (f : Format) (c : FuseConfig) (t : Tables) (p v last : List Float) where
  unfoldable pub brake_refusal : ℕ → ℕ
  brake_refusal room = refusal (config_judged f c t ++ (row_lent c (some_not_finite p || some_not_finite v || last_unfit c.gripper last) room (length last) ++ (computed when not (brake_sent f c p v last).sound ∷ [])))

  unfoldable pub brake_answer : ℕ → Result WallMasks Refusal
  brake_answer room = sent_at (brake_refusal room) (masks_sent f c p)

  unfoldable pub brake_output : List Float → List Float
  brake_output l = row_at (brake_refusal (length l)) (brake_sent f c p v last).value c.dim l

-- the row that holds
abbrev pub hold_made : Format → FuseConfig → List Float → Checked (List Float)
hold_made f c p = hold_row f c.kind (walls_at f c) p c.dim

unfoldable pub hold_sent : Format → FuseConfig → List Float → List Float → Checked (List Float)
hold_sent f c p last = sending c last (hold_made f c p)

module _ (f : Format) (c : FuseConfig) (t : Tables) (p last : List Float) where
  unfoldable pub hold_refusal : ℕ → ℕ
  hold_refusal room = refusal (config_judged f c t ++ (row_lent c (some_not_finite p || last_unfit c.gripper last) room (length last) ++ (computed when not (hold_sent f c p last).sound ∷ [])))

  unfoldable pub hold_answer : ℕ → Result WallMasks Refusal
  hold_answer room = sent_at (hold_refusal room) (masks_sent f c p)

  unfoldable pub hold_output : List Float → List Float
  hold_output l = row_at (hold_refusal (length l)) (hold_sent f c p last).value c.dim l
