-- A refusal changes nothing: each rule chooses between the new and the old by whether its number is 0.
use Prim.Native.Nat.{ℕ, zero, suc}
use mathlib.Core.Path.{◌≡◌, refl, ap, ◌∙◌}
use mathlib.Core.Bool.{Bool, true, false, ◌||◌}
use mathlib.Core.List.{List}
use borrow.Author.Tests.{ne_eqb}
use lib.Dec.{eqb}
use lib.ListN.{length}
use lib.Ieee.{Float, binary64}
use Rattle.refusal.specs.declared.Refusal.{Refusal}
use Rattle.refusal.specs.Order.{given, refusal, refused_for}
use Rattle.refusal.proofs.Entry.{left_kept}
use Rattle.std.specs.Prelude.{if◌then◌else◌, Err}
use Rattle.chunk.specs.Refusals.{lent_reasons}
use Rattle.chunk.specs.declared.ChunkBuf.{ChunkBuf}
use Rattle.chunk.specs.declared.Filled.{Filled}
use Rattle.chunk.specs.Of.{fill_of, held_refusal_of, clear_of as chunk_clear_of}
use Rattle.window.specs.declared.Trail.{Trail}
use Rattle.window.specs.declared.Recorded.{Recorded}
use Rattle.window.specs.Answer.{trail_reasons, push_reasons}
use Rattle.window.specs.Of.{push_of, clear_of}
use Rattle.chunk.specs.declared.Header.{Header}
use Rattle.conformal.specs.declared.Calibration.{Calibration}
use Rattle.conformal.specs.declared.Scores.{Scores}
use Rattle.conformal.specs.Answer.{judged, scored, standards_of, standardised, aggregated}
use Rattle.conformal.specs.Rule.{Tables}
use Rattle.envelope.specs.declared.FuseConfig.{FuseConfig}
use Rattle.tier0.specs.Rule.{Judgement}
use Rattle.tier0.specs.Refusals as checks
use Rattle.tier0.specs.Of.{action_ruling, action_refusal, action_answer, action_out, chunk_ruling, chunk_refusal, chunk_answer, chunk_out}
use Rattle.tier1.specs.declared.Tier1Rt.{Tier1Rt}
use Rattle.tier1.specs.Refusals.{state_judged}
use Rattle.tier1.specs.Of.{Tick, featured_at, ticked, features_refusal, features_of, cleared_at, reset_of}
use Rattle.course.specs.Forecast.{Forecast, place_of, written_of}
use Rattle.workspace.specs.declared.WallMasks.{WallMasks}
use Rattle.brake.specs.Answer.{placed_or, outcome, decided_at, slacks_at, plan, forecast_refusal, forecast_answer, forecast_slacks, sent_at, masks_sent, row_at, brake_sent, brake_refusal, brake_answer, brake_output, hold_sent, hold_refusal, hold_answer, hold_output}
use Rattle.brake.specs.Towards.{ran_to, running, run_refusal, run_answer, run_slacks, run_position, run_velocity}
use Rattle.lictor.specs.Answer.{check_number, forecast_number, ran_number, sent_number}
use Rattle.promises.proofs.Exactly.{run_towards_number}
use Rattle.promises.specs.Refused.{Refuses, RefusalChangesNothing}

-- ---- chosen by a test of the number

chosen_kept : {A B : Type 0} (told : A → ℕ) (part : A → B) (x : Bool) (new old : A) → told new ≡ 0 → Refuses (told (if x then new else old)) → part (if x then new else old) ≡ part old
chosen_kept told part true new old z is = absurd (is z)
chosen_kept told part false new old z is = refl

fill_kept : (b : ChunkBuf) (k : Header) (l : List Float) → Refuses (fill_of b k l).number → (fill_of b k l).buf ≡ b
unfolding fill_of
fill_kept b k l = chosen_kept (λ (x : Filled). x.number) (λ (x : Filled). x.buf) (eqb (refusal (lent_reasons l k)) 0) _ _ refl

chunk_clear_kept : (b : ChunkBuf) → Refuses (chunk_clear_of b).number → (chunk_clear_of b).buf ≡ b
unfolding chunk_clear_of
chunk_clear_kept b = chosen_kept (λ (x : Filled). x.number) (λ (x : Filled). x.buf) (eqb (held_refusal_of b) 0) _ _ refl

push_kept : (t : Trail) (p : List Float) (d : ℕ) → Refuses (push_of t p d).number → (push_of t p d).trail ≡ t
unfolding push_of
push_kept t p d = chosen_kept (λ (x : Recorded). x.number) (λ (x : Recorded). x.trail) (eqb (refusal (push_reasons t p)) 0) _ _ refl

clear_kept : (t : Trail) → Refuses (clear_of t).number → (clear_of t).trail ≡ t
unfolding clear_of
clear_kept t = chosen_kept (λ (x : Recorded). x.number) (λ (x : Recorded). x.trail) (eqb (refusal (trail_reasons t)) 0) _ _ refl

scored_kept : (n : ℕ) (old new : Scores) → Refuses n → (scored n old new).scores ≡ old
scored_kept n old new is = rw (ne_eqb n 0 is)

standardise_kept : (cal : Calibration) (tabs : Tables) (bin : ℕ) (sc : Scores) → Refuses (standardised binary64 cal tabs bin sc).refusal.number → (standardised binary64 cal tabs bin sc).scores ≡ sc
unfolding standardised
standardise_kept cal tabs bin sc = scored_kept (judged cal tabs sc (standards_of binary64 cal tabs bin sc).sound) sc _

aggregate_kept : (cal : Calibration) (tabs : Tables) (sc : Scores) → Refuses (aggregated cal tabs sc).refusal.number → (aggregated cal tabs sc).scores ≡ sc
unfolding aggregated
aggregate_kept cal tabs sc = scored_kept (judged cal tabs sc true) sc _

-- ---- chosen by the number itself

checked_kept : (n : ℕ) (j : Judgement) (k : ℕ) (l : List Float) → Refuses (check_number (checks.answer_at n j)) → checks.out_at n j k l ≡ l
unfolding check_number
checked_kept zero j k l is = absurd (is refl)
checked_kept (suc n) j k l is = refl

chunk_kept : (c : FuseConfig) (tabs : Tables) (p aux rows : List Float) (k : Header) (l : List Float) → Refuses (check_number (chunk_answer binary64 c tabs p aux rows k (length l))) → chunk_out binary64 c tabs p aux rows k l ≡ l
unfolding chunk_answer chunk_out
chunk_kept c tabs p aux rows k l = checked_kept (chunk_refusal binary64 c tabs p aux rows k (length l)) (chunk_ruling binary64 c p aux rows k.horizon).value _ l

action_kept : (c : FuseConfig) (tabs : Tables) (p aux prev a l : List Float) → Refuses (check_number (action_answer binary64 c tabs p aux prev a (length l))) → action_out binary64 c tabs p aux prev a l ≡ l
unfolding action_answer action_out
action_kept c tabs p aux prev a l = checked_kept (action_refusal binary64 c tabs p aux prev a (length l)) (action_ruling binary64 c p aux prev a).value c.dim l

featured_kept : (n : ℕ) (x : Tick) (rt : Tier1Rt) (sc : Scores) → Refuses (featured_at n x rt sc).refusal.number → ((featured_at n x rt sc).rt ≡ rt) × ((featured_at n x rt sc).scores ≡ sc)
featured_kept zero x rt sc is = absurd (is refl)
featured_kept (suc n) x rt sc is = (refl, refl)

features_kept : (c : FuseConfig) (tabs : Tables) (p ext : List Float) (there : Bool) (k : Header) (rows : List Float) (rt : Tier1Rt) (sc : Scores) → Refuses (features_of binary64 c tabs p ext there k rows rt sc).refusal.number
    → ((features_of binary64 c tabs p ext there k rows rt sc).rt ≡ rt) × ((features_of binary64 c tabs p ext there k rows rt sc).scores ≡ sc)
unfolding features_of
features_kept c tabs p ext there k rows rt sc = featured_kept (features_refusal binary64 c tabs p ext there k rows rt sc) (ticked binary64 c tabs p ext there k rows rt sc).value rt sc

cleared_kept : (n : ℕ) (rt : Tier1Rt) → Refuses (cleared_at n rt).refusal.number → (cleared_at n rt).rt ≡ rt
cleared_kept zero rt is = absurd (is refl)
cleared_kept (suc n) rt is = refl

reset_kept : (rt : Tier1Rt) → Refuses (reset_of rt).refusal.number → (reset_of rt).rt ≡ rt
unfolding reset_of
reset_kept rt = cleared_kept (given (state_judged rt)) rt

row_kept : (n : ℕ) (m : WallMasks) (row : List Float) (k : ℕ) (l : List Float) → Refuses (sent_number (sent_at n m)) → row_at n row k l ≡ l
unfolding sent_number
row_kept n m row k l is = left_kept l _ n (λ z. is (ap (λ (i : ℕ). sent_number (sent_at i m)) z))

brake_kept : (c : FuseConfig) (tabs : Tables) (p v last l : List Float) → Refuses (sent_number (brake_answer binary64 c tabs p v last (length l))) → brake_output binary64 c tabs p v last l ≡ l
unfolding brake_answer brake_output
brake_kept c tabs p v last l = row_kept (brake_refusal binary64 c tabs p v last (length l)) (masks_sent binary64 c p) (brake_sent binary64 c p v last).value c.dim l

hold_kept : (c : FuseConfig) (tabs : Tables) (p last l : List Float) → Refuses (sent_number (hold_answer binary64 c tabs p last (length l))) → hold_output binary64 c tabs p last l ≡ l
unfolding hold_answer hold_output
hold_kept c tabs p last l = row_kept (hold_refusal binary64 c tabs p last (length l)) (masks_sent binary64 c p) (hold_sent binary64 c p last).value c.dim l

-- ---- a forecast, or a run under one setpoint: what it comes to is accepted or 13

module _ {A : Type 0} (number : A → ℕ) (refused : Refusal → A) (answer : A) (accepts : number answer ≡ 0) (refuses : (r : Refusal) → number (refused r) ≡ r.number) where
  comes_to : (t : Forecast) → Refuses (number (placed_or refused answer t)) → number (placed_or refused answer t) ≡ 13
  comes_to t = go (eqb (place_of t) 0)
    where
      go : (b : Bool) → Refuses (number (if b then answer else refused (record { number = 13; place = place_of t }))) → number (if b then answer else refused (record { number = 13; place = place_of t })) ≡ 13
      go true n = absurd (n accepts)
      go false n = refuses _

  slacks_kept : (n : ℕ) (t : Forecast) (l : List Float) → Refuses (number (decided_at refused (placed_or refused answer t) n)) → (number (decided_at refused (placed_or refused answer t) n) ≡ 13 → ⊥) → slacks_at n t l ≡ l
  slacks_kept n t l = go (eqb n 0 || eqb n 13)
    where
      go : (b : Bool) → Refuses (number (if b then placed_or refused answer t else refused (refused_for n))) → (number (if b then placed_or refused answer t else refused (refused_for n)) ≡ 13 → ⊥) → (if b then written_of t l else l) ≡ l
      go true is not-13 = absurd (not-13 (comes_to t is))
      go false is not-13 = refl

forecast_kept : (c : FuseConfig) (tabs : Tables) (p v rows : List Float) (k : Header) (from : ℕ) (l : List Float) → Refuses (forecast_number (forecast_answer binary64 c tabs p v rows k from (length l)))
    → (forecast_number (forecast_answer binary64 c tabs p v rows k from (length l)) ≡ 13 → ⊥) → forecast_slacks binary64 c tabs p v rows k from l ≡ l
unfolding forecast_answer forecast_slacks forecast_number outcome
forecast_kept c tabs p v rows k from l = slacks_kept forecast_number Err _ refl (λ r. refl) (forecast_refusal binary64 c tabs p v rows k from (length l)) (plan binary64 c p v rows k from) l

run_kept : (c : FuseConfig) (tabs : Tables) (a p v : List Float) (n : ℕ) (l : List Float) → Refuses (ran_number (run_answer binary64 c tabs a p v n (length l)))
    → (run_position binary64 c tabs a p v n (length l) ≡ p) × (run_velocity binary64 c tabs a p v n (length l) ≡ v) × ((ran_number (run_answer binary64 c tabs a p v n (length l)) ≡ 13 → ⊥) → run_slacks binary64 c tabs a p v n l ≡ l)
unfolding run_answer run_slacks run_position run_velocity ran_number ran_to
run_kept c tabs a p v n l is =
    let k = run_refusal binary64 c tabs a p v n (length l) in
    let t = running binary64 c a p v n in
    let refuses : Refuses k = λ z. is (run_towards_number c tabs a p v n (length l) ∙ z) in
    (left_kept p _ k refuses, left_kept v _ k refuses, slacks_kept ran_number Err _ refl (λ r. refl) k t l is)

pub refusal_changes_nothing : RefusalChangesNothing
refusal_changes_nothing = record {
  after_fill = fill_kept;
  after_chunk_clear = chunk_clear_kept;
  after_push = push_kept;
  after_clear = clear_kept;
  after_standardise = standardise_kept;
  after_aggregate = aggregate_kept;
  after_check_chunk = chunk_kept;
  after_check_action = action_kept;
  after_features = features_kept;
  after_reset = reset_kept;
  after_brake_feasible = forecast_kept;
  after_run_towards = run_kept;
  after_brake_action = brake_kept;
  after_hold_action = hold_kept;
}
