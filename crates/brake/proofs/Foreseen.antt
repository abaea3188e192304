-- Where nothing that is judged beforehand refuses a call, the forecast's answer and its lent entries are what the forecast comes to, case by case.
use Rattle.std.specs.Prelude.{Err, Result}
use Rattle.refusal.specs.declared.Refusal.{Refusal}
use Prim.Native.Nat.{ℕ, suc, ◌+◌, ◌-◌, ◌*◌, ◌≤◌, ◌<◌}
use mathlib.Core.Path.{◌≡◌, refl, sym, ap, ◌∙◌}
use mathlib.Core.Bool.{true, false}
use mathlib.Core.List.{List, ◌++◌}
use native.Mathlib.Omega.{arith}
use borrow.Author.Tests.{ne_eqb}
use lib.ListN.{length}
use lib.Ieee.{Float, Format}
use Rattle.refusal.specs.Order.{refusal}
use Rattle.checked.specs.Each.{at, all}
use Rattle.chunk.specs.Refusals.{chunk_reasons}
use Rattle.chunk.specs.declared.Header.{Header}
use Rattle.conformal.specs.Rule.{Tables}
use Rattle.envelope.specs.Refusals.{config_judged}
use Rattle.envelope.specs.declared.BrakeKind.TheVariants.{PdSecondOrder}
use Rattle.envelope.specs.declared.FuseConfig.{FuseConfig}
use Rattle.course.specs.Forecast.{Forecast, fine, slack_at, place_of, margin_of, feasible_of, written_of}
use Rattle.rollout.specs.Rule.{forecast}
use Rattle.course.proofs.Entries.{Whole, whole_leads, written_in_order, others_kept, first_failing_place, failing_at_the_end}
use Rattle.brake.specs.declared.BrakeOut.{BrakeOut}
use Rattle.brake.specs.Rule.{second_order, forecast_by}
use Rattle.brake.specs.Answer.{outcome, plan, lent_judged, forecast_answer, forecast_slacks, forecast_with}
use Rattle.brake.proofs.Judged.{foreseen}

-- ---- the forecast

module _ (f : Format) (c : FuseConfig) (tabs : Tables) (p v rows : List Float) (head : Header) (from : ℕ) (l : List Float)
    (free : refusal (config_judged f c tabs ++ (chunk_reasons head (length rows) ++ lent_judged f c p v rows head from (length l))) ≡ 0) where
  abbrev t : Forecast
  t = plan f c p v rows head from

  abbrev answer : Result BrakeOut Refusal
  answer = forecast_answer f c tabs p v rows head from (length l)

  abbrev slacks : List Float
  slacks = forecast_slacks f c tabs p v rows head from l

  -- where no refusal but 13 stops the call, the answer is what the forecast comes to
  pub answer_is : answer ≡ outcome t
  answer_is = sym (foreseen f c tabs p v rows head from l free refl refl).gives

  pub slacks_are : slacks ≡ written_of t l
  slacks_are = sym (foreseen f c tabs p v rows head from l free refl refl).leaves

  -- if every computed number is finite, the count, the margin, the flag and the stop distance are the forecast's ..
  pub accepted_answer : Whole t → t.stop.sound ≡ true → answer ≡ forecast_with t.count (margin_of t) (feasible_of t) t.stop.value
  unfolding outcome place_of
  accepted_answer w s = answer_is ∙ rw (w, s)

  -- each entry is written, and all others are kept
  pub accepted_entries : Whole t → (k : ℕ) → k < t.count → k < length l → at slacks k ≡ slack_at t k
  accepted_entries w k b r = ap (λ (m : List Float). at m k) slacks_are ∙ written_in_order t l k (rw (← whole_leads t w) at b) r

  pub accepted_rest : Whole t → (k : ℕ) → t.count ≤ k → at slacks k ≡ at l k
  accepted_rest w k b = ap (λ (m : List Float). at m k) slacks_are ∙ others_kept t l k (rw (← whole_leads t w) at b)

  -- if place k + 1 is the first with a number that isn't finite, it is refused naming that place, with exactly the k entries before it written
  module _ (k : ℕ) (in-it : k < t.count) (before : all (fine t) k ≡ true) (there : fine t k ≡ false) where
    pub refused_answer : answer ≡ Err (record { number = 13; place = suc k })
    unfolding outcome
    refused_answer = answer_is ∙ rw ((first_failing_place t k in-it before there).0, ne_eqb (suc k) 0 (λ z. omega arith))

    pub refused_entries : (j : ℕ) → j < k → j < length l → at slacks j ≡ slack_at t j
    refused_entries j b r = ap (λ (m : List Float). at m j) slacks_are ∙ written_in_order t l j (rw (← (first_failing_place t k in-it before there).1) at b) r

    pub refused_rest : (j : ℕ) → k ≤ j → at slacks j ≡ at l j
    refused_rest j b = ap (λ (m : List Float). at m j) slacks_are ∙ others_kept t l j (rw (← (first_failing_place t k in-it before there).1) at b)

  -- a stop distance that isn't finite has the place after the last entry
  pub refused_at_the_end : Whole t → t.stop.sound ≡ false → answer ≡ Err (record { number = 13; place = suc t.count })
  unfolding outcome
  refused_at_the_end w s = answer_is ∙ rw (failing_at_the_end t w s, ne_eqb (suc t.count) 0 (λ z. omega arith))

-- for the second-order brake the forecast is that of `rollout`, whose promises say what N is, what each entry is, when it is feasible, and that the
-- shorter of two lists begins the longer
module _ (f : Format) (c : FuseConfig) (p v rows : List Float) (head : Header) (from : ℕ) (kp kv dt : Float) (is : c.brake.kind ≡ PdSecondOrder kp kv dt) where
  pub second_order_plan : plan f c p v rows head from ≡ forecast f (second_order f c p v rows head from (record { kp = kp; kv = kv; dt = dt }))
  unfolding forecast_by
  second_order_plan = rw is

  pub count_is_n : (plan f c p v rows head from).count ≡ (c.brake.commit.0 - from + c.brake.brake_steps.0) * c.brake.substeps.0
  count_is_n = ap (λ (t : Forecast). t.count) second_order_plan
