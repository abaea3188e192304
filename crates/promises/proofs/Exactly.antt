-- "Given exactly when": an entry's answer has a number if and only if that number's reason applies to the call and none before it in the order of
-- judging does, and it is accepted if and only if no reason applies. For each entry the reasons and their conditions stand in the theorem.
use Prim.Native.Nat.{ℕ, zero, suc}
use mathlib.Core.Path.{◌≡◌, refl, sym, ap, ◌∙◌}
use mathlib.Core.Bool.{Bool, true, false, not, ◌||◌}
use mathlib.Core.List.{List, [], ◌∷◌, ◌++◌}
use native.Mathlib.Omega.{arith}
use borrow.Author.Tests.{eqb-true, ne_eqb}
use lib.Dec.{eqb, ltb}
use lib.Ieee.{Float, Format, binary64}
use lib.ListN.{length}
use Rattle.refusal.specs.declared.Refusal.{Refusal}
use Rattle.refusal.specs.Order.{Reason, Judged, size, steps, short, not_finite, computed, ◌when◌, number_of, order, among, given, refusal, refused_for, answer_by, judged_by, number_given, ◌or◌}
use Rattle.std.specs.Prelude.{if◌then◌else◌, Err, Ok, Result}
use Rattle.refusal.specs.Chain.{number_back}
use Rattle.refusal.specs.Exactly.{First, here, later, exactly_first, exactly_none}
use Rattle.checked.specs.Checked.{root}
use Rattle.fmath.specs.Norm.{norm, dist}
use Rattle.fmath.specs.Answer.{some_not_finite, number_or, sqrt_answer, norm_answer, dist_answer}
use Rattle.chunk.specs.Refusals.{chunk_reasons, lent_reasons, held_reasons}
use Rattle.chunk.specs.declared.ChunkBuf.{ChunkBuf}
use Rattle.chunk.specs.declared.Filled.{Filled}
use Rattle.chunk.specs.Of.{fill_of, held_refusal_of, clear_of as chunk_clear_of, holding_of}
use Rattle.window.specs.declared.Trail.{Trail}
use Rattle.window.specs.declared.Recorded.{Recorded}
use Rattle.window.specs.Rule.{mask_refusal, net, path}
use Rattle.window.specs.Answer.{mask_of, out_of_size, unfit, trail_reasons, push_reasons, net_of, path_of, count_of, emptiness_of}
use Rattle.window.specs.Of.{push_of, clear_of}
use Rattle.chunk.specs.declared.Header.{Header}
use Rattle.conformal.specs.declared.Calibration.{Calibration}
use Rattle.conformal.specs.declared.Scores.{Scores}
use Rattle.conformal.specs.Answer.{scores_judged, judged, standards_of, standardised, aggregated, tripped, time_bin_of}
use Rattle.conformal.specs.Rule.{trips, Tables}
use Rattle.envelope.specs.Refusals.{config_judged}
use Rattle.envelope.specs.declared.FuseConfig.{FuseConfig}
use Rattle.tier0.specs.Rule.{Judgement}
use Rattle.tier0.specs.Refusals as checks
use Rattle.tier0.specs.Of.{lent_to_action, lent_to_chunk, action_ruling, action_refusal, action_answer, chunk_ruling, chunk_refusal, chunk_answer}
use Rattle.tier1.specs.declared.Tier1Rt.{Tier1Rt}
use Rattle.tier1.specs.Refusals.{none, prev_judged, state_judged}
use Rattle.tier1.specs.Of as tier1
use Rattle.course.specs.Forecast.{Forecast, place_of}
use Rattle.workspace.specs.declared.WallMasks.{WallMasks}
use Rattle.brake.specs.Answer.{plan, lent_judged, last_unfit, row_lent, placed_or, outcome, decided_at, sent_at, forecast_refusal, forecast_answer, brake_sent, brake_refusal, brake_answer, hold_sent, hold_refusal, hold_answer}
use Rattle.brake.specs.Towards.{ran_to, running, run_lent, run_refusal, run_answer}
use Rattle.lictor.specs.Answer.{number_of as number_in, mask_number, count_number, emptiness_number, verdict_number, bin_number, check_number, forecast_number, ran_number, sent_number}

-- n is the number of a call to which these reasons apply
abbrev pub Exactly : ℕ → (Reason → Bool) → Type 0
Exactly n applies =
    ((k : Reason) → (First applies order k → n ≡ number_of k) × (n ≡ number_of k → First applies order k))
    × ((((k : Reason) → applies k ≡ false) → n ≡ 0) × (n ≡ 0 → (k : Reason) → applies k ≡ false))

pub exactly : {n : ℕ} (applies : Reason → Bool) → n ≡ given applies → Exactly n applies
exactly applies e = rw e (exactly_first applies, exactly_none applies)

-- an answer that is chosen by whether its number is 0
chosen : {A : Type 0} (told : A → ℕ) (n : ℕ) (a b : A) → told a ≡ 0 → told b ≡ n → told (if eqb n 0 then a else b) ≡ n
chosen told zero a b p q = p
chosen told (suc k) a b p q = rw (ne_eqb (suc k) 0 (λ z. omega arith)) q

-- the same of an answer by what is judged
chosen_by : {A : Type 0} (told : Result A Refusal → ℕ) (n : ℕ) (a : A) → told (Ok a) ≡ 0 → ((r : Refusal) → told (Err r) ≡ r.number) → told (answer_by Err (Ok a) n) ≡ n
chosen_by told zero a p q = p
chosen_by told (suc k) a p q = q (refused_for (suc k))

-- ---- fmath (R1)

number_told_lem : (n : ℕ) (x : Float) → number_in (number_or n x) ≡ n
unfolding number_in
number_told_lem zero x = refl
number_told_lem (suc k) x = refl

pub sqrt_exactly : (f : Format) (x : Float) → Exactly (number_in (sqrt_answer f x)) (among (computed when not (root f x).sound ∷ []))
sqrt_exactly f x = exactly _ (number_told_lem _ _)

pub norm_exactly : (f : Format) (v : List Float) (n : ℕ) → Exactly (number_in (norm_answer f v n)) (among (short when ltb (length v) n ∷ not_finite when some_not_finite v ∷ computed when not (norm f v n).sound ∷ []))
norm_exactly f v n = exactly _ (number_told_lem _ _)

pub dist_exactly : (f : Format) (a b : List Float) (n : ℕ) → Exactly (number_in (dist_answer f a b n)) (among (short when (ltb (length a) n || ltb (length b) n) ∷ not_finite when (some_not_finite a || some_not_finite b) ∷ computed when not (dist f a b n).sound ∷ []))
dist_exactly f a b n = exactly _ (number_told_lem _ _)

-- ---- chunk (R2)

pub chunk_refusal_exactly : (k : Header) (n : ℕ) → Exactly (number_given (judged_by (refusal (chunk_reasons k n)))) (among (chunk_reasons k n))
chunk_refusal_exactly k n = exactly _ (number_back _)

held_number : (b : ChunkBuf) → held_refusal_of b ≡ given (prev_judged b)
unfolding held_refusal_of
held_number b = go b.filled
  where
    held : List Judged
    held = held_reasons b.«data» b.header

    go : (filled : Bool) → (if filled then refusal held else 0) ≡ given (if filled then among held else none)
    go true = refl
    go false = refl

pub held_refusal_exactly : (b : ChunkBuf) → Exactly (number_given (judged_by (held_refusal_of b))) (prev_judged b)
held_refusal_exactly b = exactly _ (number_back _ ∙ held_number b)

pub chunk_clear_exactly : (b : ChunkBuf) → Exactly (chunk_clear_of b).number (prev_judged b)
unfolding chunk_clear_of
chunk_clear_exactly b = exactly _ (chosen (λ (r : Filled). r.number) (held_refusal_of b) _ _ refl refl ∙ held_number b)

-- the number of an answer to whether a chunk is held
abbrev holding_number : Result Bool Refusal → ℕ
holding_number (Ok b) = 0
holding_number (Err r) = r.number

pub is_filled_exactly : (b : ChunkBuf) → Exactly (holding_number (holding_of b)) (prev_judged b)
unfolding holding_of
is_filled_exactly b = exactly _ (chosen_by holding_number (held_refusal_of b) b.filled refl (λ r. refl) ∙ held_number b)

pub fill_exactly : (b : ChunkBuf) (k : Header) (l : List Float) → Exactly (fill_of b k l).number (among (lent_reasons l k))
unfolding fill_of
fill_exactly b k l = exactly _ (chosen (λ (r : Filled). r.number) (refusal (lent_reasons l k)) _ _ refl refl)

-- ---- window (R3)

pub mask_exactly : (n : ℕ) → Exactly (mask_number (mask_of n)) (among (size when (ltb n 1 || ltb 63 n) ∷ []))
unfolding mask_number
mask_exactly n = exactly _ (chosen mask_number (mask_refusal n) _ _ refl refl)

pub push_exactly : (t : Trail) (p : List Float) (d : ℕ) → Exactly (push_of t p d).number (among (size when out_of_size t ∷ not_finite when (unfit t || some_not_finite p) ∷ []))
unfolding push_of
push_exactly t p d = exactly _ (chosen (λ (r : Recorded). r.number) (refusal (push_reasons t p)) _ _ refl refl)

pub clear_exactly : (t : Trail) → Exactly (clear_of t).number (among (trail_reasons t))
unfolding clear_of
clear_exactly t = exactly _ (chosen (λ (r : Recorded). r.number) (refusal (trail_reasons t)) _ _ refl refl)

pub net_exactly : (f : Format) (t : Trail) (d w : ℕ) → Exactly (number_in (net_of f t d w)) (among (size when out_of_size t ∷ not_finite when unfit t ∷ computed when not (net f t.buf t.head t.len d w).sound ∷ []))
unfolding net_of
net_exactly f t d w = exactly _ (number_told_lem _ _)

pub path_exactly : (f : Format) (t : Trail) (d w : ℕ) → Exactly (number_in (path_of f t d w)) (among (size when out_of_size t ∷ not_finite when unfit t ∷ computed when not (path f t.buf t.head t.len d w).sound ∷ []))
unfolding path_of
path_exactly f t d w = exactly _ (number_told_lem _ _)

pub len_exactly : (t : Trail) → Exactly (count_number (count_of t)) (among (trail_reasons t))
unfolding count_number count_of
len_exactly t = exactly _ (chosen_by count_number (refusal (trail_reasons t)) t.len refl (λ r. refl))

pub is_empty_exactly : (t : Trail) → Exactly (emptiness_number (emptiness_of t)) (among (trail_reasons t))
unfolding emptiness_number emptiness_of
is_empty_exactly t = exactly _ (chosen_by emptiness_number (refusal (trail_reasons t)) (eqb t.len 0) refl (λ r. refl))

-- ---- envelope (R4)

pub config_exactly : (c : FuseConfig) (tabs : Tables) → Exactly (refusal (config_judged binary64 c tabs)) (among (config_judged binary64 c tabs))
config_exactly c tabs = exactly _ refl

-- ---- tier0 (R5)

check_told_lem : (n : ℕ) (j : Judgement) → check_number (checks.answer_at n j) ≡ n
unfolding check_number
check_told_lem zero j = refl
check_told_lem (suc k) j = refl

pub check_action_exactly :
    (c : FuseConfig) (tabs : Tables) (p aux prev a : List Float) (room : ℕ)
    → Exactly (check_number (action_answer binary64 c tabs p aux prev a room)) (among (config_judged binary64 c tabs ++ lent_to_action c p aux prev a room ((computed when not (action_ruling binary64 c p aux prev a).sound) ∷ [])))
unfolding action_answer action_refusal
check_action_exactly c tabs p aux prev a room = exactly _ (check_told_lem _ (action_ruling binary64 c p aux prev a).value)

pub check_chunk_exactly :
    (c : FuseConfig) (tabs : Tables) (p aux rows : List Float) (k : Header) (room : ℕ)
    → Exactly (check_number (chunk_answer binary64 c tabs p aux rows k room)) (among (config_judged binary64 c tabs ++ (chunk_reasons k (length rows) ++ lent_to_chunk c p aux rows k room ((computed when not (chunk_ruling binary64 c p aux rows k.horizon).sound) ∷ []))))
unfolding chunk_answer chunk_refusal
check_chunk_exactly c tabs p aux rows k room = exactly _ (check_told_lem _ (chunk_ruling binary64 c p aux rows k.horizon).value)

-- ---- tier1 (R6)

pub features_exactly :
    (c : FuseConfig) (tabs : Tables) (p ext : List Float) (there : Bool) (k : Header) (rows : List Float) (rt : Tier1Rt) (sc : Scores)
    → Exactly (tier1.features_of binary64 c tabs p ext there k rows rt sc).refusal.number (tier1.judged binary64 c tabs p ext there k rows rt sc or among ((computed when not (tier1.ticked binary64 c tabs p ext there k rows rt sc).sound) ∷ []))
unfolding tier1.features_of tier1.features_refusal
features_exactly c tabs p ext there k rows rt sc = exactly _ (told _)
  where
    told : (n : ℕ) → (tier1.featured_at n (tier1.ticked binary64 c tabs p ext there k rows rt sc).value rt sc).refusal.number ≡ n
    told zero = refl
    told (suc n) = refl

pub reset_exactly : (rt : Tier1Rt) → Exactly (tier1.reset_of rt).refusal.number (state_judged rt)
unfolding tier1.reset_of
reset_exactly rt = exactly _ (told _)
  where
    told : (n : ℕ) → (tier1.cleared_at n rt).refusal.number ≡ n
    told zero = refl
    told (suc n) = refl

-- ---- brake (R7)

applied : (applies : Reason → Bool) (l : List Reason) (k : Reason) → First applies l k → applies k ≡ true
applied applies l k (here e) = e
applied applies l k (later e h) = applied applies _ k h

opposite : (b : Bool) {c : Bool} → not b ≡ c → b ≡ not c
opposite true e = ap not e
opposite false e = ap not e

-- an answer, or 13 with its place, has the number that it was chosen by
module _ {A : Type 0} (number : A → ℕ) (refused : Refusal → A) (answer : A) (accepts : number answer ≡ 0) (refuses : (r : Refusal) → number (refused r) ≡ r.number) where
  pub placed_told : (t : Forecast) (n : ℕ) → (n ≡ 0 → not (eqb (place_of t) 0) ≡ false) → (n ≡ 13 → not (eqb (place_of t) 0) ≡ true) → number (decided_at refused (placed_or refused answer t) n) ≡ n
  placed_told t n fine fails = go (eqb n 0) (eqb n 13) refl refl
    where
      go : (z f : Bool) → eqb n 0 ≡ z → eqb n 13 ≡ f → number (if z || f then placed_or refused answer t else refused (refused_for n)) ≡ n
      go true f a b = let e = eqb-true n 0 a in rw (opposite (eqb (place_of t) 0) (fine e)) (accepts ∙ sym e)
      go false true a b = let e = eqb-true n 13 b in rw (opposite (eqb (place_of t) 0) (fails e)) (refuses _ ∙ sym e)
      go false false a b = refuses _

module _ (c : FuseConfig) (tabs : Tables) (p v rows : List Float) (k : Header) (from room : ℕ) where
  abbrev forecast_judged : List Judged
  forecast_judged = config_judged binary64 c tabs ++ (chunk_reasons k (length rows) ++ (lent_judged binary64 c p v rows k from room ++ (computed when not (eqb (place_of (plan binary64 c p v rows k from)) 0) ∷ [])))

  pub brake_feasible_exactly : Exactly (forecast_number (forecast_answer binary64 c tabs p v rows k from room)) (among forecast_judged)
  unfolding forecast_answer forecast_refusal forecast_number outcome
  brake_feasible_exactly =
      let none = (exactly_none (among forecast_judged)).1 in
      let last = (exactly_first (among forecast_judged) computed).1 in
      exactly _ (placed_told forecast_number Err _ refl (λ r. refl) (plan binary64 c p v rows k from) (refusal forecast_judged) (λ z. none z computed) (λ z. applied _ _ _ (last z)))

module _ (c : FuseConfig) (tabs : Tables) (a p v : List Float) (n room : ℕ) where
  abbrev run_judged : List Judged
  run_judged = config_judged binary64 c tabs ++ (run_lent binary64 c a p v n room ++ (computed when not (eqb (place_of (running binary64 c a p v n)) 0) ∷ []))

  pub run_towards_number : ran_number (run_answer binary64 c tabs a p v n room) ≡ run_refusal binary64 c tabs a p v n room
  unfolding run_answer run_refusal ran_number ran_to
  run_towards_number =
      let none = (exactly_none (among run_judged)).1 in
      let last = (exactly_first (among run_judged) computed).1 in
      placed_told ran_number Err _ refl (λ r. refl) (running binary64 c a p v n) (refusal run_judged) (λ z. none z computed) (λ z. applied _ _ _ (last z))

  pub run_towards_exactly : Exactly (ran_number (run_answer binary64 c tabs a p v n room)) (among run_judged)
  unfolding run_refusal
  run_towards_exactly = exactly _ run_towards_number

sent_told : (n : ℕ) (m : WallMasks) → sent_number (sent_at n m) ≡ n
unfolding sent_number
sent_told zero m = refl
sent_told (suc k) m = refl

pub brake_action_exactly : (c : FuseConfig) (tabs : Tables) (p v last : List Float) (room : ℕ)
    → Exactly (sent_number (brake_answer binary64 c tabs p v last room)) (among (config_judged binary64 c tabs ++ (row_lent c (some_not_finite p || some_not_finite v || last_unfit c.gripper last) room (length last) ++ (computed when not (brake_sent binary64 c p v last).sound ∷ []))))
unfolding brake_answer brake_refusal
brake_action_exactly c tabs p v last room = exactly _ (sent_told _ _)

pub hold_action_exactly : (c : FuseConfig) (tabs : Tables) (p last : List Float) (room : ℕ)
    → Exactly (sent_number (hold_answer binary64 c tabs p last room)) (among (config_judged binary64 c tabs ++ (row_lent c (some_not_finite p || last_unfit c.gripper last) room (length last) ++ (computed when not (hold_sent binary64 c p last).sound ∷ []))))
unfolding hold_answer hold_refusal
hold_action_exactly c tabs p last room = exactly _ (sent_told _ _)

-- ---- conformal (R8)

pub standardise_exactly : (f : Format) (cal : Calibration) (tabs : Tables) (bin : ℕ) (sc : Scores) → Exactly (standardised f cal tabs bin sc).refusal.number (among (scores_judged cal tabs sc (standards_of f cal tabs bin sc).sound))
unfolding standardised judged
standardise_exactly f cal tabs bin sc = exactly _ refl

pub aggregate_exactly : (cal : Calibration) (tabs : Tables) (sc : Scores) → Exactly (aggregated cal tabs sc).refusal.number (among (scores_judged cal tabs sc true))
unfolding aggregated judged
aggregate_exactly cal tabs sc = exactly _ refl

pub trip_exactly : (cal : Calibration) (tabs : Tables) (sc : Scores) → Exactly (verdict_number (tripped cal tabs sc)) (among (scores_judged cal tabs sc true))
unfolding verdict_number tripped judged
trip_exactly cal tabs sc = exactly _ (chosen_by verdict_number (refusal (scores_judged cal tabs sc true)) (trips cal.tau sc.s) refl (λ r. refl))

pub time_bin_exactly : (t horizon : ℕ) → Exactly (bin_number (time_bin_of t horizon)) (among (steps when eqb horizon 0 ∷ []))
unfolding bin_number time_bin_of
time_bin_exactly t horizon = exactly _ (chosen bin_number (refusal (steps when eqb horizon 0 ∷ [])) _ _ refl refl)
