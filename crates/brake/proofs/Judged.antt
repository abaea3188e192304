-- A forecast's refusal: what is judged before anything is computed comes first, and where that passes the forecast decides.
use Prim.Native.Nat.{ℕ, ◌+◌, ◌≤◌}
use mathlib.Core.Path.{◌≡◌, refl, sym, ap, ◌∙◌}
use mathlib.Core.Bool.{Bool, true, false, not, ◌||◌}
use mathlib.Core.List.{List, [], ◌∷◌, ◌++◌}
use native.Mathlib.Nat.{le_trans, mul-le-mul_right}
use native.Mathlib.Omega.{arith}
use borrow.Author.Tests.{eqb-true, eqb-false, ne_eqb, ltb-false, not-false}
use lib.Dec.{eqb, ltb}
use lib.ListN.{length}
use lib.Ieee.{Float, Format}
use Rattle.refusal.specs.Order.{Judged, number_of, width, short, not_finite, computed, ◌when◌, refusal, or_later, judged_by, refused_for}
use Rattle.std.specs.Prelude.{if◌then◌else◌, Err, Result, ⊤}
use Rattle.refusal.specs.Chain.{chain, joined, first_refuses, first_passes, both_pass, passes_at}
use Rattle.refusal.specs.declared.Refusal.{Refusal}
use Rattle.fmath.specs.Answer.{some_lent_not_finite}
use Rattle.checked.proofs.Each.{neither}
use Rattle.chunk.specs.Refusals.{chunk_reasons}
use Rattle.chunk.proofs.Judged.{sizes_accepted}
use Rattle.chunk.specs.declared.Header.{Header}
use Rattle.conformal.specs.Rule.{Tables}
use Rattle.envelope.specs.Refusals.{config_judged}
use Rattle.envelope.specs.declared.BrakeKind.{BrakeKind}
use Rattle.envelope.specs.declared.BrakeKind.TheVariants.{PdSecondOrder, FirstOrderDecay, BoundedAccel, JerkLimited, ZeroVelocityHold}
use Rattle.envelope.specs.declared.FuseConfig.{FuseConfig}
use Rattle.envelope.specs.Promises.{Fit}
use Rattle.envelope.proofs.Accepted.{accepted, dim_least, dim_most, pos_dim_least, substeps_least, commit_most, substeps_in_all}
use Rattle.course.specs.Forecast.{place_of, written_of}
use Rattle.course.specs.Rows.{rows_left}
use Rattle.brake.specs.declared.BrakeOut.{BrakeOut}
use Rattle.brake.specs.Answer.{too_short, outcome, plan, lent_judged, forecast_refusal, forecast_answer, forecast_slacks}
use Rattle.brake.specs.Of.{count_for, Planned}
use Rattle.brake.proofs.ByKind.{count_is}

-- a number that no reason of the list has is not given
abbrev listed : ℕ → List Judged → Bool
listed k [] = false
listed k ((r when b) ∷ l) = eqb (number_of r) k || listed k l

pub never : (k : ℕ) (l : List Judged) → (0 ≡ k → ⊥) → listed k l ≡ false → chain l ≡ k → ⊥
never k [] z a e = z e
never k ((r when true) ∷ l) z a e = eqb-false (number_of r) k (neither (eqb (number_of r) k) (listed k l) a).0 e
never k ((r when false) ∷ l) z a e = never k l z (neither (eqb (number_of r) k) (listed k l) a).1 e

-- the whole answer
pub record Answered (f : Format) (c : FuseConfig) (tabs : Tables) (p v rows : List Float) (k : Header) (from : ℕ) (l : List Float) (r : Result BrakeOut Refusal) (m : List Float) : Type 0 where
  pub gives : r ≡ forecast_answer f c tabs p v rows k from (length l)
  pub leaves : m ≡ forecast_slacks f c tabs p v rows k from l

-- at most 4,096 entries
few_entries : (f : Format) (c : FuseConfig) (tabs : Tables) (from : ℕ) (k : BrakeKind) → Fit f c tabs → count_for c.brake k from ≤ 4096
few_entries f c tabs from (PdSecondOrder kp kv dt) w =
    let b = c.brake in
    let less : (rows_left b.commit from).0 + b.brake_steps.0 ≤ b.commit.0 + b.brake_steps.0 = omega arith in
    le_trans (mul-le-mul_right b.substeps.0 less) (substeps_in_all f c tabs w)
few_entries f c tabs from (FirstOrderDecay kp kv dt) w = let b = commit_most f c tabs w in omega arith
few_entries f c tabs from (BoundedAccel kp kv dt) w = let b = commit_most f c tabs w in omega arith
few_entries f c tabs from (JerkLimited kp kv dt) w = let b = commit_most f c tabs w in omega arith
few_entries f c tabs from (ZeroVelocityHold kp kv dt) w = let b = commit_most f c tabs w in omega arith

-- ---- the number of what is lent

module _ (f : Format) (c : FuseConfig) (p v rows : List Float) (k : Header) (from room : ℕ) where
  abbrev brief : Bool
  brief = too_short c.pos_dim (length p) (length v) (plan f c p v rows k from).count room

  abbrev unfit : Bool
  unfit = some_lent_not_finite (p ∷ v ∷ rows ∷ [])

  abbrev lent : List Judged
  lent = lent_judged f c p v rows k from room

  -- the tests that are made are the ones that are judged
  pub brief_is : {s : Bool} {n : ℕ} → s ≡ too_short c.pos_dim (length p) (length v) n room → n ≡ count_for c.brake c.brake.kind from → s ≡ brief
  brief_is g y = g ∙ ap (λ (n : ℕ). too_short c.pos_dim (length p) (length v) n room) (y ∙ sym (count_is f c p v rows k from c.brake.kind))

  enough : brief ≡ false → count_for c.brake c.brake.kind from ≤ room
  unfolding too_short
  enough g =
      let n = (plan f c p v rows k from).count in
      let b : n ≤ room = ltb-false room n (neither (ltb (length p) c.pos_dim || ltb (length v) c.pos_dim) (ltb room n) g).1 in
      rw (← count_is f c p v rows k from c.brake.kind) b

-- ---- the number, and the answer

module _ (f : Format) (c : FuseConfig) (tabs : Tables) (p v rows : List Float) (k : Header) (from : ℕ) where
  abbrev sizes : List Judged
  sizes = chunk_reasons k (length rows)

  module _ (room : ℕ) where
    abbrev later : List Judged
    later = lent f c p v rows k from room

    -- what is judged before anything is computed, and its number from that of each part
    abbrev before : List Judged
    before = config_judged f c tabs ++ (sizes ++ later)

    pub before_is : {n s q i r : Result ⊤ Refusal} → n ≡ judged_by (refusal (config_judged f c tabs)) → s ≡ judged_by (refusal sizes) → q ≡ judged_by (refusal later) → i ≡ or_later s q → r ≡ or_later n i → r ≡ judged_by (refusal before)
    before_is en es eq ei er = joined (config_judged f c tabs) (sizes ++ later) en (joined sizes later es eq ei) er

    -- what is known where nothing is refused yet
    pub planned : refusal before ≡ 0 → Planned c (length rows) k from room
    planned z =
        let w = both_pass (config_judged f c tabs) (sizes ++ later) z in
        let x = both_pass sizes later w.1 in
        let fit = accepted f c tabs w.0 in
        let sized = sizes_accepted k (length rows) x.0 in
        let a = passes_at width (not (eqb k.dim c.dim)) ((short when brief f c p v rows k from room) ∷ (not_finite when unfit f c p v rows k from room) ∷ []) x.1 in
        let b = passes_at short (brief f c p v rows k from room) ((not_finite when unfit f c p v rows k from room) ∷ []) a.1 in
        record {
          narrow = dim_most f c tabs fit;
          moves = omega (arith, dim_least f c tabs fit, pos_dim_least f c tabs fit);
          wide = eqb-true k.dim c.dim (not-false (eqb k.dim c.dim) a.0);
          rowed = omega (arith, sized.some_rows);
          there = sized.all_there;
          parted = substeps_least f c tabs fit;
          few = few_entries f c tabs from c.brake.kind fit;
          space = enough f c p v rows k from room b.0;
        }

  -- what is judged last
  abbrev rest : List Judged
  rest = (computed when not (eqb (place_of (plan f c p v rows k from)) 0)) ∷ []

  either : (b : Bool) → (eqb (if b then 13 else 0) 0 || eqb (if b then 13 else 0) 13) ≡ true
  either true = refl
  either false = refl

  module _ (l : List Float) where
    pub refused : {n : ℕ} → n ≡ refusal (before (length l)) → (n ≡ 0 → ⊥) → {r : Refusal} → r ≡ refused_for n → Answered f c tabs p v rows k from l (Err r) l
    unfolding forecast_answer forecast_slacks forecast_refusal
    refused {n} g y i =
        let b = before (length l) in
        let z : chain (b ++ rest) ≡ n = first_refuses b rest (λ q. y (g ∙ q)) ∙ sym g in
        let j = ne_eqb n 0 y in
        let m = ne_eqb n 13 (λ q. never 13 b (λ o. omega arith) refl (sym g ∙ q)) in
        record { gives = rw (z, j, m, i); leaves = rw (z, j, m) }

    pub foreseen : refusal (before (length l)) ≡ 0 → {r : Result BrakeOut Refusal} {m : List Float} → r ≡ outcome (plan f c p v rows k from) → m ≡ written_of (plan f c p v rows k from) l → Answered f c tabs p v rows k from l r m
    unfolding forecast_answer forecast_slacks forecast_refusal
    foreseen z i j =
        let b = before (length l) in
        let q : chain (b ++ rest) ≡ (if not (eqb (place_of (plan f c p v rows k from)) 0) then 13 else 0) = first_passes b rest z in
        let o = either (not (eqb (place_of (plan f c p v rows k from)) 0)) in
        record { gives = i ∙ rw (q, o); leaves = j ∙ rw (q, o) }
