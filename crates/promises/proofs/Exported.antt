-- One answer for each input of the static library: of every exported function, two answers and states of the lent places that meet its contract for the
-- same arguments are the same. Each contract is an equation, or a record of equations, one for the number and one for each place.
use Rattle.workspace.specs.declared.WallMasks.{WallMasks}
use Rattle.std.specs.Prelude.{Result}
use Rattle.refusal.specs.declared.Refusal.{Refusal}
use Prim.Native.Nat.{ℕ}
use mathlib.Core.Path.{◌≡◌}
use mathlib.Core.Bool.{Bool}
use mathlib.Core.List.{List}
use lib.Ieee.{Float}
use Rattle.chunk.specs.declared.Filled.{Filled}
use Rattle.window.specs.declared.Recorded.{Recorded}
use Rattle.conformal.specs.declared.Scored.{Scored}
use Rattle.envelope.specs.declared.Derived.{Derived}
use Rattle.tier0.specs.declared.Tier0Out.{Tier0Out}
use Rattle.tier1.specs.declared.Tier1Rt.{Tier1Rt}
use Rattle.tier1.specs.declared.Featured.{Featured}
use Rattle.tier1.specs.declared.Cleared.{Cleared}
use Rattle.brake.specs.declared.BrakeOut.{BrakeOut}
use Rattle.brake.specs.declared.Ran.{Ran}
use Rattle.lictor.specs.Answer.{NumberGiven, FilledGiven, MaskGiven, RecordedGiven, CountGiven, EmptinessGiven, DerivedGiven, CheckGiven, FeaturedGiven, StateLaid, ClearedGiven, ForecastGiven, RanGiven, SentGiven, ScoredGiven, VerdictGiven, BinGiven}
use Rattle.lictor.proofs.lictor_environment.Reads as lictor-environment
use Rattle.lictor.proofs.lictor_min.Reads as lictor-min
use Rattle.lictor.proofs.lictor_max.Reads as lictor-max
use Rattle.lictor.proofs.lictor_clamp.Reads as lictor-clamp
use Rattle.lictor.proofs.lictor_clamp_side.Reads as lictor-clamp-side
use Rattle.lictor.proofs.lictor_sqrt.Reads as lictor-sqrt
use Rattle.lictor.proofs.lictor_norm.Reads as lictor-norm
use Rattle.lictor.proofs.lictor_dist.Reads as lictor-dist
use Rattle.lictor.proofs.lictor_fill.Reads as lictor-fill
use Rattle.lictor.proofs.lictor_action.Reads as lictor-action
use Rattle.lictor.proofs.lictor_set_row.Reads as lictor-set-row
use Rattle.lictor.proofs.lictor_held_rows.Reads as lictor-held-rows
use Rattle.lictor.proofs.lictor_mask.Reads as lictor-mask
use Rattle.lictor.proofs.lictor_push.Reads as lictor-push
use Rattle.lictor.proofs.lictor_hits.Reads as lictor-hits
use Rattle.lictor.proofs.lictor_trail_push.Reads as lictor-trail-push
use Rattle.lictor.proofs.lictor_trail_clear.Reads as lictor-trail-clear
use Rattle.lictor.proofs.lictor_trail_net.Reads as lictor-trail-net
use Rattle.lictor.proofs.lictor_trail_path.Reads as lictor-trail-path
use Rattle.lictor.proofs.lictor_trail_len.Reads as lictor-trail-len
use Rattle.lictor.proofs.lictor_trail_is_empty.Reads as lictor-trail-is-empty
use Rattle.lictor.proofs.lictor_derive.Reads as lictor-derive
use Rattle.lictor.proofs.checks.lictor_check_chunk.Reads as lictor-check-chunk
use Rattle.lictor.proofs.checks.lictor_check_action.Reads as lictor-check-action
use Rattle.lictor.proofs.scoring.lictor_features.Reads as lictor-features
use Rattle.lictor.proofs.scoring.lictor_tier1_new.Reads as lictor-tier1-new
use Rattle.lictor.proofs.scoring.lictor_tier1_reset.Reads as lictor-tier1-reset
use Rattle.lictor.proofs.braking.lictor_brake_feasible.Reads as lictor-brake-feasible
use Rattle.lictor.proofs.braking.lictor_run_towards.Reads as lictor-run-towards
use Rattle.lictor.proofs.braking.lictor_brake_action.Reads as lictor-brake-action
use Rattle.lictor.proofs.braking.lictor_hold_action.Reads as lictor-hold-action
use Rattle.lictor.proofs.lictor_standardise.Reads as lictor-standardise
use Rattle.lictor.proofs.lictor_aggregate.Reads as lictor-aggregate
use Rattle.lictor.proofs.lictor_trip.Reads as lictor-trip
use Rattle.lictor.proofs.lictor_time_bin.Reads as lictor-time-bin
use Rattle.promises.proofs.OneAnswer.{unique, both, One, OneWithLent, With3}

-- ---- the records

number_given : {a : Result Float Refusal} {r r' : ℕ} {old : Float} {new new' : Float} → NumberGiven a r old new → NumberGiven a r' old new' → (r ≡ r') × (new ≡ new')
number_given p q = (unique p.number q.number, unique p.value q.value)

filled_given : {a : Filled} {r r' : ℕ} {d₀ : List Float} {d d' : List Float} {h₀ : List ℕ} {h h' : List ℕ} → FilledGiven a r d₀ d h₀ h → FilledGiven a r' d₀ d' h₀ h' → (r ≡ r') × ((d ≡ d') × (h ≡ h'))
filled_given p q = (unique p.number q.number, (unique p.numbers q.numbers, unique p.header q.header))

mask_given : {a : Result ℕ Refusal} {r r' : ℕ} {old : ℕ} {new new' : ℕ} → MaskGiven a r old new → MaskGiven a r' old new' → (r ≡ r') × (new ≡ new')
mask_given p q = (unique p.number q.number, unique p.value q.value)

recorded_given : {a : Recorded} {r r' : ℕ} {l₀ : List Float} {l l' : List Float} {m₀ : List ℕ} {m m' : List ℕ} → RecordedGiven a r l₀ l m₀ m → RecordedGiven a r' l₀ l' m₀ m' → (r ≡ r') × ((l ≡ l') × (m ≡ m'))
recorded_given p q = (unique p.number q.number, (unique p.numbers q.numbers, unique p.marks q.marks))

count_given : {a : Result ℕ Refusal} {r r' : ℕ} {old : ℕ} {new new' : ℕ} → CountGiven a r old new → CountGiven a r' old new' → (r ≡ r') × (new ≡ new')
count_given p q = (unique p.number q.number, unique p.len q.len)

emptiness_given : {a : Result Bool Refusal} {r r' : ℕ} {old : ℕ} {new new' : ℕ} → EmptinessGiven a r old new → EmptinessGiven a r' old new' → (r ≡ r') × (new ≡ new')
emptiness_given p q = (unique p.number q.number, unique p.empty q.empty)

derived_given : {n : ℕ} {d : Derived} {r r' : ℕ} {old : List Float} {new new' : List Float} → DerivedGiven n d r old new → DerivedGiven n d r' old new' → (r ≡ r') × (new ≡ new')
derived_given p q = (unique p.number q.number, unique p.numbers q.numbers)

check_given : {fits : Bool} {a : Result Tier0Out Refusal} {l : List Float} {r r' : ℕ} {m₀ : List ℕ} {m m' : List ℕ} {x₀ : Float} {x x' : Float} {o₀ : List Float} {o o' : List Float} → CheckGiven fits a l r m₀ m x₀ x o₀ o → CheckGiven fits a l r' m₀ m' x₀ x' o₀ o' → (r ≡ r') × ((m ≡ m') × ((x ≡ x') × (o ≡ o')))
check_given p q = (unique p.number q.number, (unique p.marks q.marks, (unique p.speed q.speed, unique p.output q.output)))

featured_given : {fits came : Bool} {a : Featured} {r r' : ℕ} {d₀ : List Float} {d d' : List Float} {h₀ : List ℕ} {h h' : List ℕ} {f₀ : List Float} {f f' : List Float} {c₀ : List ℕ} {c c' : List ℕ} {s₀ : List Float} {s s' : List Float} {m₀ : List ℕ} {m m' : List ℕ} → FeaturedGiven fits came a r d₀ d h₀ h f₀ f c₀ c s₀ s m₀ m → FeaturedGiven fits came a r' d₀ d' h₀ h' f₀ f' c₀ c' s₀ s' m₀ m' → (r ≡ r') × ((d ≡ d') × ((h ≡ h') × ((f ≡ f') × ((c ≡ c') × ((s ≡ s') × (m ≡ m'))))))
featured_given p q = (unique p.number q.number, (unique p.rows q.rows, (unique p.header q.header, (unique p.held q.held, (unique p.kept q.kept, (unique p.scores q.scores, unique p.marks q.marks))))))

state_laid : {rt : Tier1Rt} {d d' : List Float} {h h' : List ℕ} {p p' : List Float} {t t' : List ℕ} {f f' : List Float} {c c' : List ℕ} → StateLaid rt d h p t f c → StateLaid rt d' h' p' t' f' c' → (d ≡ d') × ((h ≡ h') × ((p ≡ p') × ((t ≡ t') × ((f ≡ f') × (c ≡ c')))))
state_laid p q = (unique p.rows q.rows, (unique p.header q.header, (unique p.trail q.trail, (unique p.samples q.samples, (unique p.held q.held, unique p.kept q.kept)))))

cleared_given : {fits : Bool} {a : Cleared} {r r' : ℕ} {d₀ : List Float} {d d' : List Float} {h₀ : List ℕ} {h h' : List ℕ} {p₀ : List Float} {p p' : List Float} {t₀ : List ℕ} {t t' : List ℕ} {f₀ : List Float} {f f' : List Float} {c₀ : List ℕ} {c c' : List ℕ} → ClearedGiven fits a r d₀ d h₀ h p₀ p t₀ t f₀ f c₀ c → ClearedGiven fits a r' d₀ d' h₀ h' p₀ p' t₀ t' f₀ f' c₀ c' → (r ≡ r') × ((d ≡ d') × ((h ≡ h') × ((p ≡ p') × ((t ≡ t') × ((f ≡ f') × (c ≡ c'))))))
cleared_given p q = (unique p.number q.number, (unique p.rows q.rows, (unique p.header q.header, (unique p.trail q.trail, (unique p.samples q.samples, (unique p.held q.held, unique p.kept q.kept))))))

forecast_given : {fits : Bool} {a : Result BrakeOut Refusal} {l : List Float} {r r' : ℕ} {m₀ : List ℕ} {m m' : List ℕ} {x₀ : List Float} {x x' : List Float} {p₀ : ℕ} {p p' : ℕ} {s₀ : List Float} {s s' : List Float} → ForecastGiven fits a l r m₀ m x₀ x p₀ p s₀ s → ForecastGiven fits a l r' m₀ m' x₀ x' p₀ p' s₀ s' → (r ≡ r') × ((m ≡ m') × ((x ≡ x') × ((p ≡ p') × (s ≡ s'))))
forecast_given p q = (unique p.number q.number, (unique p.marks q.marks, (unique p.distances q.distances, (unique p.place q.place, unique p.slacks q.slacks))))

ran_given : {fits : Bool} {a : Result Ran Refusal} {l q w : List Float} {r r' n₀ n n' : ℕ} {x₀ x x' : Float} {p₀ p p' : ℕ} {s₀ s s' q₀ q₁ q₁' w₀ w₁ w₁' : List Float} → RanGiven fits a l q w r n₀ n x₀ x p₀ p s₀ s q₀ q₁ w₀ w₁ → RanGiven fits a l q w r' n₀ n' x₀ x' p₀ p' s₀ s' q₀ q₁' w₀ w₁'
    → (r ≡ r') × ((n ≡ n') × ((x ≡ x') × ((p ≡ p') × ((s ≡ s') × ((q₁ ≡ q₁') × (w₁ ≡ w₁'))))))
ran_given p q = (unique p.number q.number, (unique p.count q.count, (unique p.margin q.margin, (unique p.place q.place, (unique p.slacks q.slacks, (unique p.position q.position, unique p.velocity q.velocity))))))

sent_given : {fits : Bool} {a : Result WallMasks Refusal} {l : List Float} {r r' : ℕ} {m₀ : List ℕ} {m m' : List ℕ} {o₀ : List Float} {o o' : List Float} → SentGiven fits a l r m₀ m o₀ o → SentGiven fits a l r' m₀ m' o₀ o' → (r ≡ r') × ((m ≡ m') × (o ≡ o'))
sent_given p q = (unique p.number q.number, (unique p.marks q.marks, unique p.output q.output))

scored_given : {fits : Bool} {a : Scored} {r r' : ℕ} {s₀ : List Float} {s s' : List Float} {m₀ : List ℕ} {m m' : List ℕ} → ScoredGiven fits a r s₀ s m₀ m → ScoredGiven fits a r' s₀ s' m₀ m' → (r ≡ r') × ((s ≡ s') × (m ≡ m'))
scored_given p q = (unique p.number q.number, (unique p.scores q.scores, unique p.marks q.marks))

verdict_given : {fits : Bool} {a : Result Bool Refusal} {r r' : ℕ} {old : ℕ} {new new' : ℕ} → VerdictGiven fits a r old new → VerdictGiven fits a r' old new' → (r ≡ r') × (new ≡ new')
verdict_given p q = (unique p.number q.number, unique p.trips q.trips)

bin_given : {a : Result ℕ Refusal} {r r' : ℕ} {old : ℕ} {new new' : ℕ} → BinGiven a r old new → BinGiven a r' old new' → (r ≡ r') × (new ≡ new')
bin_given p q = (unique p.number q.number, unique p.bin q.bin)

-- ---- what is told of an answer and of several places

abbrev With2 : {L A R E B C : Type 0} → (L → A → R → E → Type 0) → (E → B) → (E → C) → Type 0
With2 {L} {A} {R} {E} Post b c = (l : L) (a : A) (r s : R) (x y : E) → Post l a r x → Post l a s y → (r ≡ s) × ((b x ≡ b y) × (c x ≡ c y))

abbrev With4 : {L A R E B C D F : Type 0} → (L → A → R → E → Type 0) → (E → B) → (E → C) → (E → D) → (E → F) → Type 0
With4 {L} {A} {R} {E} Post b c d e = (l : L) (a : A) (r s : R) (x y : E) → Post l a r x → Post l a s y → (r ≡ s) × ((b x ≡ b y) × ((c x ≡ c y) × ((d x ≡ d y) × (e x ≡ e y))))

abbrev Lent6 : {L A R E B C D F G H : Type 0} → (L → A → R → E → Type 0) → (E → B) → (E → C) → (E → D) → (E → F) → (E → G) → (E → H) → Type 0
Lent6 {L} {A} {R} {E} Post b c d e f g = (l : L) (a : A) (r s : R) (x y : E) → Post l a r x → Post l a s y → (b x ≡ b y) × ((c x ≡ c y) × ((d x ≡ d y) × ((e x ≡ e y) × ((f x ≡ f y) × (g x ≡ g y)))))

abbrev With6 : {L A R E B C D F G H : Type 0} → (L → A → R → E → Type 0) → (E → B) → (E → C) → (E → D) → (E → F) → (E → G) → (E → H) → Type 0
With6 {L} {A} {R} {E} Post b c d e f g = (l : L) (a : A) (r s : R) (x y : E) → Post l a r x → Post l a s y → (r ≡ s) × ((b x ≡ b y) × ((c x ≡ c y) × ((d x ≡ d y) × ((e x ≡ e y) × ((f x ≡ f y) × (g x ≡ g y))))))

-- ---- where it runs

pub one_lictor_environment : One lictor-environment.Post (λ r x. r)
one_lictor_environment l a r s x y = unique

-- ---- fmath (R1)

pub one_lictor_min : One lictor-min.Post (λ r x. r)
one_lictor_min l a r s x y = unique

pub one_lictor_max : One lictor-max.Post (λ r x. r)
one_lictor_max l a r s x y = unique

pub one_lictor_clamp : One lictor-clamp.Post (λ r x. r)
one_lictor_clamp l a r s x y = unique

pub one_lictor_clamp_side : OneWithLent lictor-clamp-side.Post (λ x. x.1.1.1.0.now)
one_lictor_clamp_side l a r s x y p q = (unique p.0 q.0, unique p.1 q.1)

pub one_lictor_sqrt : OneWithLent lictor-sqrt.Post (λ x. x.1.0.now)
one_lictor_sqrt l a r s x y = number_given

pub one_lictor_norm : OneWithLent lictor-norm.Post (λ x. x.1.1.0.now)
one_lictor_norm l a r s x y = number_given

pub one_lictor_dist : OneWithLent lictor-dist.Post (λ x. x.1.1.1.0.now)
one_lictor_dist l a r s x y = number_given

-- ---- chunk (R2)

pub one_lictor_fill : With2 lictor-fill.Post (λ x. x.0.now) (λ x. x.1.0.now)
one_lictor_fill l a r s x y = filled_given

pub one_lictor_action : OneWithLent lictor-action.Post (λ x. x.1.1.1.1.0.now)
one_lictor_action l a r s x y = both

pub one_lictor_set_row : One lictor-set-row.Post (λ r x. x.0.now)
one_lictor_set_row l a r s x y = unique

pub one_lictor_held_rows : One lictor-held-rows.Post (λ r x. r)
one_lictor_held_rows l a r s x y = unique

-- ---- window (R3)

pub one_lictor_mask : OneWithLent lictor-mask.Post (λ x. x.1.0.now)
one_lictor_mask l a r s x y = mask_given

pub one_lictor_push : One lictor-push.Post (λ r x. r)
one_lictor_push l a r s x y = unique

pub one_lictor_hits : One lictor-hits.Post (λ r x. r)
one_lictor_hits l a r s x y = unique

pub one_lictor_trail_push : With2 lictor-trail-push.Post (λ x. x.0.now) (λ x. x.1.0.now)
one_lictor_trail_push l a r s x y = recorded_given

pub one_lictor_trail_clear : With2 lictor-trail-clear.Post (λ x. x.0.now) (λ x. x.1.0.now)
one_lictor_trail_clear l a r s x y = recorded_given

pub one_lictor_trail_net : OneWithLent lictor-trail-net.Post (λ x. x.1.1.1.1.0.now)
one_lictor_trail_net l a r s x y = number_given

pub one_lictor_trail_path : OneWithLent lictor-trail-path.Post (λ x. x.1.1.1.1.0.now)
one_lictor_trail_path l a r s x y = number_given

pub one_lictor_trail_len : OneWithLent lictor-trail-len.Post (λ x. x.1.1.0.now)
one_lictor_trail_len l a r s x y = count_given

pub one_lictor_trail_is_empty : OneWithLent lictor-trail-is-empty.Post (λ x. x.1.1.0.now)
one_lictor_trail_is_empty l a r s x y = emptiness_given

-- ---- envelope (R4)

pub one_lictor_derive : OneWithLent lictor-derive.Post (λ x. x.1.1.1.1.0.now)
one_lictor_derive l a r s x y = derived_given

-- ---- tier0 (R5)

pub one_lictor_check_chunk : With3 lictor-check-chunk.Post (λ x. x.1.1.1.1.1.1.1.1.1.1.1.0.now) (λ x. x.1.1.1.1.1.1.1.1.1.1.1.1.0.now) (λ x. x.1.1.1.1.1.1.1.1.1.1.0.now)
one_lictor_check_chunk l a r s x y = check_given

pub one_lictor_check_action : With3 lictor-check-action.Post (λ x. x.1.1.1.1.1.1.1.1.1.0.now) (λ x. x.1.1.1.1.1.1.1.1.1.1.0.now) (λ x. x.1.1.1.1.1.1.1.1.0.now)
one_lictor_check_action l a r s x y = check_given

-- ---- tier1 (R6)

pub one_lictor_features : With6 lictor-features.Post (λ x. x.1.1.1.1.0.now) (λ x. x.1.1.1.1.1.0.now) (λ x. x.1.1.1.1.1.1.1.1.0.now) (λ x. x.1.1.1.1.1.1.1.1.1.0.now) (λ x. x.1.1.1.1.1.1.1.1.1.1.1.1.1.1.1.1.1.1.1.0.now) (λ x. x.1.1.1.1.1.1.1.1.1.1.1.1.1.1.1.1.1.1.1.1.0.now)
one_lictor_features l a r s x y = featured_given

pub one_lictor_tier1_new : Lent6 lictor-tier1-new.Post (λ x. x.0.now) (λ x. x.1.0.now) (λ x. x.1.1.0.now) (λ x. x.1.1.1.0.now) (λ x. x.1.1.1.1.0.now) (λ x. x.1.1.1.1.1.0.now)
one_lictor_tier1_new l a r s x y = state_laid

pub one_lictor_tier1_reset : With6 lictor-tier1-reset.Post (λ x. x.0.now) (λ x. x.1.0.now) (λ x. x.1.1.0.now) (λ x. x.1.1.1.0.now) (λ x. x.1.1.1.1.0.now) (λ x. x.1.1.1.1.1.0.now)
one_lictor_tier1_reset l a r s x y = cleared_given

-- ---- brake (R7)

pub one_lictor_brake_feasible : With4 lictor-brake-feasible.Post (λ x. x.1.1.1.1.1.1.1.1.1.1.1.1.0.now) (λ x. x.1.1.1.1.1.1.1.1.1.1.1.1.1.0.now) (λ x. x.1.1.1.1.1.1.1.1.1.1.1.1.1.1.0.now) (λ x. x.1.1.1.1.1.1.1.1.1.1.1.0.now)
one_lictor_brake_feasible l a r s x y = forecast_given

pub one_lictor_run_towards : With6 lictor-run-towards.Post (λ x. x.1.1.1.1.1.1.1.1.1.0.now) (λ x. x.1.1.1.1.1.1.1.1.1.1.0.now) (λ x. x.1.1.1.1.1.1.1.1.1.1.1.0.now) (λ x. x.1.1.1.1.1.1.1.1.0.now) (λ x. x.1.1.1.1.1.0.now) (λ x. x.1.1.1.1.1.1.0.now)
one_lictor_run_towards l a r s x y = ran_given

pub one_lictor_brake_action : With2 lictor-brake-action.Post (λ x. x.1.1.1.1.1.1.1.1.0.now) (λ x. x.1.1.1.1.1.1.1.0.now)
one_lictor_brake_action l a r s x y = sent_given

pub one_lictor_hold_action : With2 lictor-hold-action.Post (λ x. x.1.1.1.1.1.1.1.0.now) (λ x. x.1.1.1.1.1.1.0.now)
one_lictor_hold_action l a r s x y = sent_given

-- ---- conformal (R8)

pub one_lictor_standardise : With2 lictor-standardise.Post (λ x. x.1.1.1.1.1.1.1.0.now) (λ x. x.1.1.1.1.1.1.1.1.0.now)
one_lictor_standardise l a r s x y = scored_given

pub one_lictor_aggregate : With2 lictor-aggregate.Post (λ x. x.1.1.1.1.1.1.0.now) (λ x. x.1.1.1.1.1.1.1.0.now)
one_lictor_aggregate l a r s x y = scored_given

pub one_lictor_trip : OneWithLent lictor-trip.Post (λ x. x.1.1.1.1.1.1.1.1.0.now)
one_lictor_trip l a r s x y = verdict_given

pub one_lictor_time_bin : OneWithLent lictor-time-bin.Post (λ x. x.1.1.0.now)
one_lictor_time_bin l a r s x y = bin_given
