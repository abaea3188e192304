-- Equal answers are given alike, so that a function which hands on an entry's answer meets the entry's rule.
use Rattle.workspace.specs.declared.WallMasks.{WallMasks}
use Rattle.refusal.specs.declared.Refusal.{Refusal}
use Prim.Native.Nat.{ℕ}
use mathlib.Core.Path.{◌≡◌, sym, ap, ◌∙◌, refl}
use mathlib.Core.Bool.{Bool, true, false, ◌&&◌}
use mathlib.Core.List.{List}
use borrow.Author.Tests.{eqb-true, le-leb}
use lib.ListN.{length}
use lib.Ieee.{Float, binary64}
use lib.Dec.{eqb}
use Rattle.window.specs.declared.Recorded.{Recorded}
use Rattle.window.specs.declared.Trail.{Trail}
use Rattle.window.specs.Answer.{net_of, path_of, count_of, emptiness_of}
use Rattle.window.specs.Of.{push_of, clear_of}
use Rattle.conformal.specs.declared.Scored.{Scored}
use Rattle.conformal.specs.declared.Scores.{Scores}
use Rattle.conformal.specs.declared.Calibration.{Calibration}
use Rattle.conformal.specs.Rule.{Tables}
use Rattle.conformal.specs.Answer.{standardised, aggregated, tripped}
use Rattle.envelope.specs.declared.Derived.{Derived}
use Rattle.envelope.specs.declared.FuseConfig.{FuseConfig}
use Rattle.envelope.specs.declared.Compiled.{Compiled}
use Rattle.envelope.specs.Refusals.{compiled}
use Rattle.tier0.specs.declared.Tier0Out.{Tier0Out}
use Rattle.tier0.specs.Of.{action_answer, action_out, chunk_answer, chunk_out}
use Rattle.chunk.specs.declared.Header.{Header}
use Rattle.tier1.specs.declared.Tier1Rt.{Tier1Rt}
use Rattle.tier1.specs.declared.Cleared.{Cleared}
use Rattle.tier1.specs.Of.{features_of, reset_of}
use Rattle.brake.specs.declared.BrakeOut.{BrakeOut}
use Rattle.brake.specs.declared.Ran.{Ran}
use Rattle.brake.specs.Answer.{forecast_answer, forecast_slacks, brake_answer, brake_output, hold_answer, hold_output}
use Rattle.brake.specs.Towards.{run_answer, run_slacks, run_position, run_velocity}
use Rattle.std.specs.Prelude.{if◌then◌else◌, Result}
use Rattle.refusal.specs.Order.{refusal}
use Rattle.chunk.specs.Refusals.{lent_reasons}
use Rattle.chunk.specs.Of.{fill_of}
use Rattle.chunk.proofs.Judged.{accepted_fits, lent_accepted}
use Rattle.layout.specs.Chunk.{header_from}
use Rattle.lictor.specs.Asked.{bare, rows_over}
use Rattle.lictor.specs.Answer.{fitting, NumberGiven, FilledGiven, MaskGiven, RecordedGiven, CountGiven, EmptinessGiven, DerivedGiven, CheckPut, CheckGiven, FeaturedGiven, StateLaid, ClearedGiven, ForecastPut, ForecastGiven, RanPut, RanGiven, SentPut, SentGiven, ScoredGiven, VerdictGiven, BinGiven}

pub number_alike : {a b : Result Float Refusal} {r : ℕ} {old new : Float} → a ≡ b → NumberGiven a r old new → NumberGiven b r old new
number_alike e g = rw e at g

-- a lent chunk, put into a buffer where it is not refused, is what `fill` makes of the buffer
pub filled_so : (d : List Float) (k : Header) (rows : List Float) {n : ℕ} {m : List Float} {h₀ h : List ℕ} → n ≡ refusal (lent_reasons rows k)
    → (m ≡ (if eqb n 0 then rows_over d rows else d)) × (h ≡ (if eqb n 0 then header_from k true else h₀)) → FilledGiven (fill_of (bare d k) k rows) n d m h₀ h
unfolding fill_of
filled_so d k rows {n} {m} {h₀} {h} en put = go (eqb n 0) refl
  where
    go : (none : Bool) → eqb n 0 ≡ none → FilledGiven (fill_of (bare d k) k rows) n d m h₀ h
    go true z =
        let zero_is = eqb-true n 0 z in
        let fits = le-leb (length rows) 512 (accepted_fits (lent_accepted rows k (sym en ∙ zero_is)).0) in
        let judged : eqb (refusal (lent_reasons rows k)) 0 ≡ true = ap (λ (x : ℕ). eqb x 0) (sym en) ∙ z in
        record { number = zero_is ∙ rw judged; numbers = put.0 ∙ rw (z, judged, fits); header = put.1 ∙ rw (z, judged) }
    go false z =
        let judged : eqb (refusal (lent_reasons rows k)) 0 ≡ false = ap (λ (x : ℕ). eqb x 0) (sym en) ∙ z in
        record { number = en ∙ rw judged; numbers = put.0 ∙ rw (z, judged, judged); header = put.1 ∙ rw (z, judged, judged) }

pub mask_alike : {a b : Result ℕ Refusal} {r old new : ℕ} → a ≡ b → MaskGiven a r old new → MaskGiven b r old new
mask_alike e g = rw e at g

pub recorded_alike : {a b : Recorded} {r : ℕ} {l₀ l : List Float} {m₀ m : List ℕ} → a ≡ b → RecordedGiven a r l₀ l m₀ m → RecordedGiven b r l₀ l m₀ m
recorded_alike e g = rw e at g

pub count_alike : {a b : Result ℕ Refusal} {r old new : ℕ} → a ≡ b → CountGiven a r old new → CountGiven b r old new
count_alike e g = rw e at g

pub emptiness_alike : {a b : Result Bool Refusal} {r old new : ℕ} → a ≡ b → EmptinessGiven a r old new → EmptinessGiven b r old new
emptiness_alike e g = rw e at g

pub derived_alike : {m n : ℕ} {d e : Derived} {r : ℕ} {old new : List Float} → m ≡ n → d ≡ e → DerivedGiven m d r old new → DerivedGiven n e r old new
derived_alike p q g = rw (p, q) at g

-- the features of a tick, of a configuration, a state and scores that are taken apart
pub featured_alike : (t : Tables) (p ext : List Float) (there : Bool) (k : Header) (rows : List Float) {e f g i j l : Bool} {c y : FuseConfig} {rt st : Tier1Rt} {sc tc : Scores} {r : ℕ} {d₀ d : List Float} {h₀ h : List ℕ} {f₀ f₁ : List Float} {c₀ c₁ : List ℕ} {s₀ s : List Float} {m₀ m : List ℕ}
    → e ≡ i → f ≡ j → g ≡ l → c ≡ y → rt ≡ st → sc ≡ tc
    → FeaturedGiven (e && f && g) there (features_of binary64 c t p ext there k rows rt sc) r d₀ d h₀ h f₀ f₁ c₀ c₁ s₀ s m₀ m
    → FeaturedGiven (i && j && l) there (features_of binary64 y t p ext there k rows st tc) r d₀ d h₀ h f₀ f₁ c₀ c₁ s₀ s m₀ m
featured_alike t p ext there k rows e1 e2 e3 e4 e5 e6 g = rw (e1, e2, e3, e4, e5, e6) at g

pub cleared_alike : {f g : Bool} {a b : Cleared} {r : ℕ} {d₀ d : List Float} {h₀ h : List ℕ} {p₀ p : List Float} {t₀ t : List ℕ} {f₀ f₁ : List Float} {c₀ c : List ℕ}
    → f ≡ g → a ≡ b → ClearedGiven f a r d₀ d h₀ h p₀ p t₀ t f₀ f₁ c₀ c → ClearedGiven g b r d₀ d h₀ h p₀ p t₀ t f₀ f₁ c₀ c
cleared_alike p q g = rw (p, q) at g

pub laid_alike : {a b : Tier1Rt} {d : List Float} {h : List ℕ} {p : List Float} {t : List ℕ} {f : List Float} {c : List ℕ} → a ≡ b → StateLaid a d h p t f c → StateLaid b d h p t f c
laid_alike e g = rw e at g

pub scored_alike : {f g : Bool} {a b : Scored} {r : ℕ} {s₀ s : List Float} {m₀ m : List ℕ} → f ≡ g → a ≡ b → ScoredGiven f a r s₀ s m₀ m → ScoredGiven g b r s₀ s m₀ m
scored_alike p q g = rw (p, q) at g

pub verdict_alike : {f g : Bool} {a b : Result Bool Refusal} {r old new : ℕ} → f ≡ g → a ≡ b → VerdictGiven f a r old new → VerdictGiven g b r old new
verdict_alike p q g = rw (p, q) at g

pub bin_alike : {a b : Result ℕ Refusal} {r old new : ℕ} → a ≡ b → BinGiven a r old new → BinGiven b r old new
bin_alike e g = rw e at g

-- a check whose counts do not fit leaves every place as it was
pub check_misfit : {f g : Bool} {a : Result Tier0Out Refusal} {l : List Float} {m : List ℕ} {x : Float} {o : List Float} → f ≡ false → f ≡ g → CheckGiven g a l 255 m m x x o o
check_misfit e p = let z = sym p ∙ e in record { number = rw z; marks = rw z; speed = rw z; output = rw z }

-- a check whose counts fit is put where it belongs
pub check_fits : {f g : Bool} {a b : Result Tier0Out Refusal} {l : List Float} {r : ℕ} {m₀ m : List ℕ} {x₀ x : Float} {o₀ o : List Float} → f ≡ true → f ≡ g → (a ≡ b) × (o ≡ l) → CheckPut a r m₀ m x₀ x → CheckGiven g b l r m₀ m x₀ x o₀ o
check_fits e p q g = let z = sym p ∙ e in record { number = rw (z, ← q.0) g.number; marks = rw (z, ← q.0) g.marks; speed = rw (z, ← q.0) g.speed; output = rw z q.1 }

-- a forecast whose counts do not fit leaves every place as it was; one whose counts fit is put where it belongs
pub forecast_misfit : {f g : Bool} {a : Result BrakeOut Refusal} {l : List Float} {m : List ℕ} {x : List Float} {p : ℕ} {s : List Float} → f ≡ false → f ≡ g → ForecastGiven g a l 255 m m x x p p s s
forecast_misfit e q = let z = sym q ∙ e in record { number = rw z; marks = rw z; distances = rw z; place = rw z; slacks = rw z }

pub forecast_fits : {f g : Bool} {a b : Result BrakeOut Refusal} {l : List Float} {r : ℕ} {m₀ m : List ℕ} {x₀ x : List Float} {p₀ p : ℕ} {s₀ s : List Float} → f ≡ true → f ≡ g → (a ≡ b) × (s ≡ l) → ForecastPut a r m₀ m x₀ x p₀ p → ForecastGiven g b l r m₀ m x₀ x p₀ p s₀ s
forecast_fits e y q g = let z = sym y ∙ e in record { number = rw (z, ← q.0) g.number; marks = rw (z, ← q.0) g.marks; distances = rw (z, ← q.0) g.distances; place = rw (z, ← q.0) g.place; slacks = rw z q.1 }

-- a run whose counts do not fit leaves every place as it was; one whose counts fit is put where it belongs
pub ran_misfit : {f g : Bool} {a : Result Ran Refusal} {l q w : List Float} {n : ℕ} {x : Float} {p : ℕ} {s q₀ w₀ : List Float} → f ≡ false → f ≡ g → RanGiven g a l q w 255 n n x x p p s s q₀ q₀ w₀ w₀
ran_misfit e y = let z = sym y ∙ e in record { number = rw z; count = rw z; margin = rw z; place = rw z; slacks = rw z; position = rw z; velocity = rw z }

pub ran_fits : {f g : Bool} {a b : Result Ran Refusal} {l q w : List Float} {r n₀ n : ℕ} {x₀ x : Float} {p₀ p : ℕ} {s₀ s q₀ q₁ w₀ w₁ : List Float} → f ≡ true → f ≡ g → (a ≡ b) × (s ≡ l) × (q₁ ≡ q) × (w₁ ≡ w) → RanPut a r n₀ n x₀ x p₀ p → RanGiven g b l q w r n₀ n x₀ x p₀ p s₀ s q₀ q₁ w₀ w₁
ran_fits e y q g =
    let z = sym y ∙ e in record {
      number = rw (z, ← q.0) g.number;
      count = rw (z, ← q.0) g.count;
      margin = rw (z, ← q.0) g.margin;
      place = rw (z, ← q.0) g.place;
      slacks = rw z q.1;
      position = rw z q.2;
      velocity = rw z q.3;
    }

-- a row whose counts do not fit is not written, and one whose counts fit is
pub sent_misfit : {f g : Bool} {a : Result WallMasks Refusal} {l : List Float} {m : List ℕ} {o : List Float} → f ≡ false → f ≡ g → SentGiven g a l 255 m m o o
sent_misfit e q = let z = sym q ∙ e in record { number = rw z; marks = rw z; output = rw z }

pub sent_fits : {f g : Bool} {a b : Result WallMasks Refusal} {l : List Float} {r : ℕ} {m₀ m : List ℕ} {o₀ o : List Float} → f ≡ true → f ≡ g → (a ≡ b) × (o ≡ l) → SentPut a r m₀ m → SentGiven g b l r m₀ m o₀ o
sent_fits e y q g = let z = sym y ∙ e in record { number = rw (z, ← q.0) g.number; marks = rw (z, ← q.0) g.marks; output = rw z q.1 }

-- ---- an entry's answer on equal arguments

pub standardised_alike : (u : Tables) (bin : ℕ) {a : Scored} {cal k : Calibration} {sc t : Scores} → a ≡ standardised binary64 cal u bin sc → cal ≡ k → sc ≡ t → a ≡ standardised binary64 k u bin t
standardised_alike u bin e p q = rw (p, q) at e

pub aggregated_alike : (u : Tables) {a : Scored} {cal k : Calibration} {sc t : Scores} → a ≡ aggregated cal u sc → cal ≡ k → sc ≡ t → a ≡ aggregated k u t
aggregated_alike u e p q = rw (p, q) at e

pub tripped_alike : (u : Tables) {a : Result Bool Refusal} {cal k : Calibration} {sc t : Scores} → a ≡ tripped cal u sc → cal ≡ k → sc ≡ t → a ≡ tripped k u t
tripped_alike u e p q = rw (p, q) at e

pub fitting_alike : {n m k : ℕ} {f g : Bool} → n ≡ fitting f m → f ≡ g → m ≡ k → n ≡ fitting g k
fitting_alike e p q = rw (p, q) at e

pub compile_alike : (t : Tables) {a : Compiled} {c k : FuseConfig} → a ≡ compiled binary64 c t → c ≡ k → a ≡ compiled binary64 k t
compile_alike t e p = e ∙ ap (λ (x : FuseConfig). compiled binary64 x t) p

pub push_alike : (p : List Float) (d : ℕ) {a : Recorded} {t u : Trail} → a ≡ push_of t p d → t ≡ u → a ≡ push_of u p d
push_alike p d e q = rw q at e

pub clear_alike : {a : Recorded} {t u : Trail} → a ≡ clear_of t → t ≡ u → a ≡ clear_of u
clear_alike e q = rw q at e

pub net_alike : (d w : ℕ) {a : Result Float Refusal} {t u : Trail} → a ≡ net_of binary64 t d w → t ≡ u → a ≡ net_of binary64 u d w
net_alike d w e q = rw q at e

pub path_alike : (d w : ℕ) {a : Result Float Refusal} {t u : Trail} → a ≡ path_of binary64 t d w → t ≡ u → a ≡ path_of binary64 u d w
path_alike d w e q = rw q at e

pub len_alike : {a : Result ℕ Refusal} {t u : Trail} → a ≡ count_of t → t ≡ u → a ≡ count_of u
len_alike p q = p ∙ ap count_of q

pub is_empty_alike : {a : Result Bool Refusal} {t u : Trail} → a ≡ emptiness_of t → t ≡ u → a ≡ emptiness_of u
is_empty_alike p q = p ∙ ap emptiness_of q

pub chunk_alike : (t : Tables) (p aux rows : List Float) (x : Header) (l : List Float) {a : Result Tier0Out Refusal} {o : List Float} {c k : FuseConfig} → (a ≡ chunk_answer binary64 c t p aux rows x (length l)) × (o ≡ chunk_out binary64 c t p aux rows x l) → c ≡ k → (a ≡ chunk_answer binary64 k t p aux rows x (length l)) × (o ≡ chunk_out binary64 k t p aux rows x l)
chunk_alike t p aux rows x l g q = rw q at g

pub action_alike : (t : Tables) (p aux prev b l : List Float) {a : Result Tier0Out Refusal} {o : List Float} {c k : FuseConfig} → (a ≡ action_answer binary64 c t p aux prev b (length l)) × (o ≡ action_out binary64 c t p aux prev b l) → c ≡ k → (a ≡ action_answer binary64 k t p aux prev b (length l)) × (o ≡ action_out binary64 k t p aux prev b l)
action_alike t p aux prev b l g q = rw q at g

pub reset_alike : {a : Cleared} {x y : Tier1Rt} → a ≡ reset_of x → x ≡ y → a ≡ reset_of y
reset_alike e q = rw q at e

pub forecast_alike : (t : Tables) (p v rows : List Float) (x : Header) (from : ℕ) (l : List Float) {a : Result BrakeOut Refusal} {m : List Float} {c k : FuseConfig} → (a ≡ forecast_answer binary64 c t p v rows x from (length l)) × (m ≡ forecast_slacks binary64 c t p v rows x from l) → c ≡ k → (a ≡ forecast_answer binary64 k t p v rows x from (length l)) × (m ≡ forecast_slacks binary64 k t p v rows x from l)
forecast_alike t p v rows x from l q y = (rw y at q.0, rw y at q.1)

pub run_alike : (t : Tables) (a p v : List Float) (n : ℕ) (l : List Float) {r : Result Ran Refusal} {m x y : List Float} {c k : FuseConfig}
    → (r ≡ run_answer binary64 c t a p v n (length l)) × (m ≡ run_slacks binary64 c t a p v n l) × (x ≡ run_position binary64 c t a p v n (length l)) × (y ≡ run_velocity binary64 c t a p v n (length l)) → c ≡ k
    → (r ≡ run_answer binary64 k t a p v n (length l)) × (m ≡ run_slacks binary64 k t a p v n l) × (x ≡ run_position binary64 k t a p v n (length l)) × (y ≡ run_velocity binary64 k t a p v n (length l))
run_alike t a p v n l q e = (rw e at q.0, rw e at q.1, rw e at q.2, rw e at q.3)

pub brake_alike : (t : Tables) (p v last l : List Float) {a : Result WallMasks Refusal} {m : List Float} {c k : FuseConfig} → (a ≡ brake_answer binary64 c t p v last (length l)) × (m ≡ brake_output binary64 c t p v last l) → c ≡ k → (a ≡ brake_answer binary64 k t p v last (length l)) × (m ≡ brake_output binary64 k t p v last l)
brake_alike t p v last l q y = (rw y at q.0, rw y at q.1)

pub hold_alike : (t : Tables) (p last l : List Float) {a : Result WallMasks Refusal} {m : List Float} {c k : FuseConfig} → (a ≡ hold_answer binary64 c t p last (length l)) × (m ≡ hold_output binary64 c t p last l) → c ≡ k → (a ≡ hold_answer binary64 k t p last (length l)) × (m ≡ hold_output binary64 k t p last l)
hold_alike t p last l q y = (rw y at q.0, rw y at q.1)
