-- One answer for each input: of every public function below the static library that the prover reads, two answers that meet its contract for the same
-- arguments are the same, and so are two states of what it is lent to write. `Post` is the contract as the prover reads it.
use mathlib.Core.Path.{◌≡◌, sym, ◌∙◌}
use Rattle.root.proofs.sqrt.Reads as root-sqrt
use Rattle.root.proofs.sqrt_by_rounds.Reads as root-sqrt-by-rounds
use Rattle.fmath.proofs.finite.Reads as finite
use Rattle.fmath.proofs.above_zero.Reads as above_zero
use Rattle.fmath.proofs.not_below_zero.Reads as not-below-zero
use Rattle.fmath.proofs.all_finite.Reads as all_finite_lem
use Rattle.fmath.proofs.all_above_zero.Reads as all-above-zero
use Rattle.fmath.proofs.some_not_finite.Reads as some-not-finite
use Rattle.fmath.proofs.fewer.Reads as fewer
use Rattle.fmath.proofs.put.Reads as put
use Rattle.fmath.proofs.padded.Reads as padded
use Rattle.fmath.proofs.min.Reads as min
use Rattle.fmath.proofs.max.Reads as max
use Rattle.fmath.proofs.clamp.Reads as clamp
use Rattle.fmath.proofs.sqrt.Reads as sqrt
use Rattle.fmath.proofs.magnitude.Reads as magnitude
use Rattle.fmath.proofs.distance.Reads as distance
use Rattle.fmath.proofs.norm.Reads as norm
use Rattle.fmath.proofs.dist.Reads as dist
use Rattle.chunk.proofs.chunk_refusal.Reads as chunk-refusal
use Rattle.chunk.proofs.lent_refusal.Reads as lent-refusal
use Rattle.chunk.proofs.ChunkBuf.new.Reads as chunk-buf-new
use Rattle.chunk.proofs.ChunkBuf.fill.Reads as chunk-buf-fill
use Rattle.chunk.proofs.ChunkBuf.emptied.Reads as chunk-buf-emptied
use Rattle.chunk.proofs.ChunkBuf.clear.Reads as chunk-buf-clear
use Rattle.chunk.proofs.ChunkBuf.is_filled.Reads as chunk-buf-is-filled
use Rattle.chunk.proofs.ChunkBuf.held_refusal.Reads as chunk-buf-held-refusal
use Rattle.chunk.proofs.set_row.Reads as set-row
use Rattle.chunk.proofs.held_rows.Reads as held_rows
use Rattle.chunk.proofs.action.Reads as action
use Rattle.window.proofs.mask.Reads as mask
use Rattle.window.proofs.Window.new.Reads as window-new
use Rattle.window.proofs.Window.pushed.Reads as window-pushed
use Rattle.window.proofs.Window.hits.Reads as window-hits
use Rattle.window.proofs.Window.clear.Reads as window-clear
use Rattle.window.proofs.Trail.new.Reads as trail-new
use Rattle.window.proofs.Trail.out_of_size.Reads as trail-out-of-size
use Rattle.window.proofs.Trail.unfit.Reads as trail-unfit
use Rattle.window.proofs.Trail.push.Reads as trail-push
use Rattle.window.proofs.Trail.displacement.Reads as trail-displacement
use Rattle.window.proofs.Trail.travelled.Reads as trail-travelled
use Rattle.window.proofs.Trail.net.Reads as trail-net
use Rattle.window.proofs.Trail.path.Reads as trail-path
use Rattle.window.proofs.Trail.clear.Reads as trail-clear
use Rattle.window.proofs.Trail.len.Reads as trail-len
use Rattle.window.proofs.Trail.is_empty.Reads as trail-is-empty
use Rattle.envelope.proofs.counted.Reads as counted
use Rattle.envelope.proofs.substeps_in.Reads as substeps-in
use Rattle.envelope.proofs.compile.Reads as compile
use Rattle.pull.proofs.pulled.Reads as pulled
use Rattle.workspace.proofs.first_boxed.Reads as first-boxed
use Rattle.workspace.proofs.shape_ok.Reads as shape-ok
use Rattle.workspace.proofs.spans.Reads as spans
use Rattle.workspace.proofs.outside.Reads as outside
use Rattle.workspace.proofs.inward.Reads as inward
use Rattle.workspace.proofs.unmoved.Reads as unmoved
use Rattle.workspace.proofs.wall_masks.Reads as wall-masks
use Rattle.workspace.proofs.setpoint.Reads as setpoint
use Rattle.workspace.proofs.setpoint_masks.Reads as setpoint-masks
use Rattle.workspace.proofs.slack.Reads as slack
use Rattle.workspace.proofs.slack_abreast.Reads as slack-abreast
use Rattle.workspace.proofs.slack_r.Reads as slack-within
use Rattle.tier0.proofs.check_action.Reads as check-action
use Rattle.tier0.proofs.check_chunk.Reads as check-chunk
use Rattle.tier1.proofs.Tier1Rt.new.Reads as tier1-rt-new
use Rattle.tier1.proofs.Tier1Rt.reset.Reads as tier1-rt-reset
use Rattle.tier1.proofs.features.Reads as features
use Rattle.tier1.proofs.one_tick.Reads as one-tick
use Rattle.course.proofs.rows_left.Reads as rows_left
use Rattle.rollout.proofs.rollout.Reads as rollout
use Rattle.rollout.proofs.stop_distance.Reads as rollout-stop-distance
use Rattle.stopping.proofs.closed_form.Reads as closed-form
use Rattle.stopping.proofs.stop_distance.Reads as stopping-stop-distance
use Rattle.rollout.proofs.towards.Reads as towards
use Rattle.brake.proofs.brake_feasible.Reads as brake-feasible
use Rattle.brake.proofs.run_towards.Reads as run-towards
use Rattle.brake.proofs.brake_action.Reads as brake-action
use Rattle.brake.proofs.hold_action.Reads as hold-action
use Rattle.conformal.proofs.sizes_ok.Reads as sizes-ok
use Rattle.conformal.proofs.features_ok.Reads as features-ok
use Rattle.conformal.proofs.numbers_ok.Reads as numbers-ok
use Rattle.conformal.proofs.scores_ok.Reads as scores-ok
use Rattle.conformal.proofs.standardise.Reads as standardise
use Rattle.conformal.proofs.aggregate.Reads as aggregate
use Rattle.conformal.proofs.trip.Reads as trip
use Rattle.conformal.proofs.time_bin.Reads as time-bin
use Rattle.bits.proofs.weight.Reads as weight
use Rattle.refusal.proofs.Refusal.of.Reads as refusal-of
use Rattle.refusal.proofs.Refusal.when.Reads as refusal-when
use Rattle.refusal.proofs.Refusal.or_later.Reads as refusal-or-later
use Rattle.refusal.proofs.Refusal.number_of.Reads as refusal-number-of
use Rattle.refusal.proofs.Refusal.earlier.Reads as refusal-earlier
use Rattle.words.proofs.pair.Reads as pair
use Rattle.words.proofs.word.Reads as word
use Rattle.words.proofs.float_of.Reads as float_of
use Rattle.words.proofs.pattern.Reads as pattern
use Rattle.layout.proofs.config.config_of.Reads as config-of
use Rattle.layout.proofs.config.counts_fit.Reads as counts_fit_lem
use Rattle.layout.proofs.config.put_derived.Reads as layout-put-derived
use Rattle.layout.proofs.chunks.header_fits.Reads as header-fits
use Rattle.layout.proofs.chunks.chunk_of.Reads as Chunk-of
use Rattle.layout.proofs.chunks.put_header.Reads as put-header
use Rattle.layout.proofs.chunks.put_chunk.Reads as put-chunk
use Rattle.layout.proofs.chunks.let_go.Reads as let_go
use Rattle.layout.proofs.states.state_fits.Reads as state-fits
use Rattle.layout.proofs.states.state_of.Reads as state-of
use Rattle.layout.proofs.states.put_held.Reads as put-held
use Rattle.layout.proofs.trails.trail_of.Reads as trail-of
use Rattle.layout.proofs.trails.put_trail.Reads as put-trail
use Rattle.layout.proofs.scores.marks_fit.Reads as marks-fit
use Rattle.layout.proofs.scores.scores_of.Reads as scores-of
use Rattle.layout.proofs.scores.put_scores.Reads as put-scores
use Rattle.layout.proofs.places.to_u8.Reads as to-u8
use Rattle.layout.proofs.places.to_u16.Reads as to-u16
use Rattle.layout.proofs.places.to_u32.Reads as to-u32
use Rattle.card.proofs.decode.Reads as decode
use Rattle.card.proofs.configure.Reads as configure
use Rattle.card.proofs.run.Reads as run
use Rattle.card.proofs.answer_of.Reads as answer-of
use Rattle.card.proofs.answer_block.Reads as answer-block
use Rattle.sample.proofs.agrees.Reads as agrees

-- an equation admits no second answer
pub unique : {A : Type 0} {a b c : A} → a ≡ c → b ≡ c → a ≡ b
unique p q = p ∙ sym q

-- two equations admit no second pair
pub both : {A B : Type 0} {a b c : A} {d e f : B} → (a ≡ c) × (d ≡ f) → (b ≡ c) × (e ≡ f) → (a ≡ b) × (d ≡ e)
both p q = (unique p.0 q.0, unique p.1 q.1)

-- nor do four
all_four : {A B C D : Type 0} {a b c : A} {d e f : B} {g h i : C} {j k m : D} → (a ≡ c) × (d ≡ f) × (g ≡ i) × (j ≡ m) → (b ≡ c) × (e ≡ f) × (h ≡ i) × (k ≡ m) → (a ≡ b) × ((d ≡ e) × ((g ≡ h) × (j ≡ k)))
all_four p q = (unique p.0 q.0, (unique p.1 q.1, (unique p.2 q.2, unique p.3 q.3)))

-- what is told of an answer r and of the arguments x as the function returns is the same for any two that meet the contract with arguments a
abbrev pub One : {L A R E B : Type 0} → (L → A → R → E → Type 0) → (R → E → B) → Type 0
One {L} {A} {R} {E} Post told = (l : L) (a : A) (r s : R) (x y : E) → Post l a r x → Post l a s y → told r x ≡ told s y

-- the answer is the same, and so is what was lent to be written
abbrev pub OneWithLent : {L A R E B : Type 0} → (L → A → R → E → Type 0) → (E → B) → Type 0
OneWithLent {L} {A} {R} {E} Post lent = (l : L) (a : A) (r s : R) (x y : E) → Post l a r x → Post l a s y → (r ≡ s) × (lent x ≡ lent y)

-- the same of three buffers
abbrev pub With3 : {L A R E B C D : Type 0} → (L → A → R → E → Type 0) → (E → B) → (E → C) → (E → D) → Type 0
With3 {L} {A} {R} {E} Post b c d = (l : L) (a : A) (r s : R) (x y : E) → Post l a r x → Post l a s y → (r ≡ s) × ((b x ≡ b y) × ((c x ≡ c y) × (d x ≡ d y)))

-- two buffers that are lent to be written are the same
abbrev BothLent : {L A R E B C : Type 0} → (L → A → R → E → Type 0) → (E → B) → (E → C) → Type 0
BothLent {L} {A} {R} {E} Post first second = (l : L) (a : A) (r s : R) (x y : E) → Post l a r x → Post l a s y → (first x ≡ first y) × (second x ≡ second y)

-- ---- root (R1)

pub one_root_sqrt : One root-sqrt.Post (λ r x. r)
one_root_sqrt l a r s x y = unique

pub one_root_sqrt_by_rounds : One root-sqrt-by-rounds.Post (λ r x. r)
one_root_sqrt_by_rounds l a r s x y = unique

-- ---- fmath (R1)

pub one_finite : One finite.Post (λ r x. r)
one_finite l a r s x y = unique

pub one_above_zero : One above_zero.Post (λ r x. r)
one_above_zero l a r s x y = unique

pub one_not_below_zero : One not-below-zero.Post (λ r x. r)
one_not_below_zero l a r s x y = unique

pub one_all_finite : One all_finite_lem.Post (λ r x. r)
one_all_finite l a r s x y = unique

pub one_all_above_zero : One all-above-zero.Post (λ r x. r)
one_all_above_zero l a r s x y = unique

pub one_some_not_finite : One some-not-finite.Post (λ r x. r)
one_some_not_finite l a r s x y = unique

pub one_fewer : One fewer.Post (λ r x. r)
one_fewer l a r s x y = unique

pub one_put : One put.Post (λ r x. x.1.1.0.now)
one_put l a r s x y = unique

pub one_padded : One padded.Post (λ r x. r)
one_padded l a r s x y = unique

pub one_min : One min.Post (λ r x. r)
one_min l a r s x y = unique

pub one_max : One max.Post (λ r x. r)
one_max l a r s x y = unique

pub one_clamp : One clamp.Post (λ r x. r)
one_clamp l a r s x y = unique

pub one_sqrt : One sqrt.Post (λ r x. r)
one_sqrt l a r s x y = unique

pub one_magnitude : One magnitude.Post (λ r x. r)
one_magnitude l a r s x y = unique

pub one_distance : One distance.Post (λ r x. r)
one_distance l a r s x y = unique

pub one_norm : One norm.Post (λ r x. r)
one_norm l a r s x y = unique

pub one_dist : One dist.Post (λ r x. r)
one_dist l a r s x y = unique

-- ---- chunk (R2)

pub one_chunk_refusal : One chunk-refusal.Post (λ r x. r)
one_chunk_refusal l a r s x y = unique

pub one_chunk_buf_new : One chunk-buf-new.Post (λ r x. r)
one_chunk_buf_new l a r s x y = unique

pub one_chunk_buf_fill : One chunk-buf-fill.Post (λ r x. r)
one_chunk_buf_fill l a r s x y = unique

pub one_chunk_buf_emptied : One chunk-buf-emptied.Post (λ r x. r)
one_chunk_buf_emptied l a r s x y = unique

pub one_chunk_buf_clear : One chunk-buf-clear.Post (λ r x. r)
one_chunk_buf_clear l a r s x y = unique

pub one_chunk_buf_is_filled : One chunk-buf-is-filled.Post (λ r x. r)
one_chunk_buf_is_filled l a r s x y = unique

pub one_lent_refusal : One lent-refusal.Post (λ r x. r)
one_lent_refusal l a r s x y = unique

pub one_chunk_buf_held_refusal : One chunk-buf-held-refusal.Post (λ r x. r)
one_chunk_buf_held_refusal l a r s x y = unique

pub one_set_row : One set-row.Post (λ r x. x.0.now)
one_set_row l a r s x y = unique

pub one_held_rows : One held_rows.Post (λ r x. r.now)
one_held_rows l a r s x y = unique

pub one_action : One action.Post (λ r x. r.now)
one_action l a r s x y = unique

-- ---- window (R3)

pub one_mask : One mask.Post (λ r x. r)
one_mask l a r s x y = unique

pub one_window_new : One window-new.Post (λ r x. r)
one_window_new l a r s x y = unique

pub one_window_pushed : One window-pushed.Post (λ r x. r)
one_window_pushed l a r s x y = unique

pub one_window_hits : One window-hits.Post (λ r x. r)
one_window_hits l a r s x y = unique

pub one_window_clear : One window-clear.Post (λ r x. r)
one_window_clear l a r s x y = unique

pub one_trail_new : One trail-new.Post (λ r x. r)
one_trail_new l a r s x y = unique

pub one_trail_out_of_size : One trail-out-of-size.Post (λ r x. r)
one_trail_out_of_size l a r s x y = unique

pub one_trail_unfit : One trail-unfit.Post (λ r x. r)
one_trail_unfit l a r s x y = unique

pub one_trail_push : One trail-push.Post (λ r x. r)
one_trail_push l a r s x y = unique

pub one_trail_displacement : One trail-displacement.Post (λ r x. r)
one_trail_displacement l a r s x y = unique

pub one_trail_travelled : One trail-travelled.Post (λ r x. r)
one_trail_travelled l a r s x y = unique

pub one_trail_net : One trail-net.Post (λ r x. r)
one_trail_net l a r s x y = unique

pub one_trail_path : One trail-path.Post (λ r x. r)
one_trail_path l a r s x y = unique

pub one_trail_clear : One trail-clear.Post (λ r x. r)
one_trail_clear l a r s x y = unique

pub one_trail_len : One trail-len.Post (λ r x. r)
one_trail_len l a r s x y = unique

pub one_trail_is_empty : One trail-is-empty.Post (λ r x. r)
one_trail_is_empty l a r s x y = unique

-- ---- envelope (R4)

pub one_counted : One counted.Post (λ r x. r)
one_counted l a r s x y = unique

pub one_substeps_in : One substeps-in.Post (λ r x. r)
one_substeps_in l a r s x y = unique

pub one_compile : One compile.Post (λ r x. r)
one_compile l a r s x y = unique

-- ---- pull and workspace (modules 5 and 7)

pub one_pulled : One pulled.Post (λ r x. r)
one_pulled l a r s x y = unique

pub one_first_boxed : One first-boxed.Post (λ r x. r)
one_first_boxed l a r s x y = unique

pub one_shape_ok : One shape-ok.Post (λ r x. r)
one_shape_ok l a r s x y = unique

pub one_spans : One spans.Post (λ r x. r)
one_spans l a r s x y = unique

pub one_outside : One outside.Post (λ r x. r)
one_outside l a r s x y = unique

pub one_inward : One inward.Post (λ r x. r)
one_inward l a r s x y = unique

pub one_unmoved : One unmoved.Post (λ r x. r)
one_unmoved l a r s x y = unique

pub one_wall_masks : One wall-masks.Post (λ r x. r)
one_wall_masks l a r s x y = unique

pub one_setpoint : One setpoint.Post (λ r x. r)
one_setpoint l a r s x y = unique

pub one_setpoint_masks : One setpoint-masks.Post (λ r x. r)
one_setpoint_masks l a r s x y = unique

pub one_slack : One slack.Post (λ r x. r)
one_slack l a r s x y = unique

pub one_slack_abreast : One slack-abreast.Post (λ r x. r)
one_slack_abreast l a r s x y = unique

pub one_slack_within : One slack-within.Post (λ r x. r)
one_slack_within l a r s x y = unique

-- ---- tier0 (R5)

pub one_check_action : OneWithLent check-action.Post (λ x. x.1.1.1.1.1.1.1.0.now)
one_check_action l a r s x y = both

pub one_check_chunk : OneWithLent check-chunk.Post (λ x. x.1.1.1.1.1.1.1.0.now)
one_check_chunk l a r s x y = both

-- ---- tier1 (R6)

pub one_tier1_rt_new : One tier1-rt-new.Post (λ r x. r)
one_tier1_rt_new l a r s x y = unique

pub one_tier1_rt_reset : One tier1-rt-reset.Post (λ r x. r)
one_tier1_rt_reset l a r s x y = unique

pub one_features : One features.Post (λ r x. r)
one_features l a r s x y = unique

pub one_one_tick : One one-tick.Post (λ r x. r)
one_one_tick l a r s x y = unique

-- ---- rollout (R7)

pub one_rows_left : One rows_left.Post (λ r x. r.0)
one_rows_left l a r s x y = unique

pub one_rollout : OneWithLent rollout.Post (λ x. x.1.1.1.1.1.0.now)
one_rollout l a r s x y = both

pub one_towards : OneWithLent towards.Post (λ x. x.1.1.1.1.1.1.0.now)
one_towards l a r s x y = both

pub one_rollout_stop_distance : One rollout-stop-distance.Post (λ r x. r)
one_rollout_stop_distance l a r s x y = unique

-- ---- stopping (R7)

pub one_closed_form : OneWithLent closed-form.Post (λ x. x.1.1.1.1.1.1.0.now)
one_closed_form l a r s x y = both

pub one_stopping_stop_distance : One stopping-stop-distance.Post (λ r x. r)
one_stopping_stop_distance l a r s x y = unique

-- ---- brake (R7)

pub one_brake_feasible : OneWithLent brake-feasible.Post (λ x. x.1.1.1.1.1.1.1.1.0.now)
one_brake_feasible l a r s x y = both

pub one_run_towards : With3 run-towards.Post (λ x. x.1.1.1.1.1.1.1.0.now) (λ x. x.1.1.1.1.0.now) (λ x. x.1.1.1.1.1.0.now)
one_run_towards l a r s x y = all_four

pub one_brake_action : OneWithLent brake-action.Post (λ x. x.1.1.1.1.1.1.0.now)
one_brake_action l a r s x y = both

pub one_hold_action : OneWithLent hold-action.Post (λ x. x.1.1.1.1.1.0.now)
one_hold_action l a r s x y = both

-- ---- conformal (R8)

pub one_sizes_ok : One sizes-ok.Post (λ r x. r)
one_sizes_ok l a r s x y = unique

pub one_features_ok : One features-ok.Post (λ r x. r)
one_features_ok l a r s x y = unique

pub one_numbers_ok : One numbers-ok.Post (λ r x. r)
one_numbers_ok l a r s x y = unique

pub one_scores_ok : One scores-ok.Post (λ r x. r)
one_scores_ok l a r s x y = unique

pub one_standardise : One standardise.Post (λ r x. r)
one_standardise l a r s x y = unique

pub one_aggregate : One aggregate.Post (λ r x. r)
one_aggregate l a r s x y = unique

pub one_trip : One trip.Post (λ r x. r)
one_trip l a r s x y = unique

pub one_weight : One weight.Post (λ r x. r)
one_weight l a r s x y p q = unique p.0 q.0

pub one_time_bin : One time-bin.Post (λ r x. r)
one_time_bin l a r s x y = unique

-- ---- refusal

pub one_refusal_of : One refusal-of.Post (λ r x. r)
one_refusal_of l a r s x y = unique

pub one_refusal_when : One refusal-when.Post (λ r x. r)
one_refusal_when l a r s x y = unique

pub one_refusal_or_later : One refusal-or-later.Post (λ r x. r)
one_refusal_or_later l a r s x y = unique

pub one_refusal_number_of : One refusal-number-of.Post (λ r x. r)
one_refusal_number_of l a r s x y = unique

pub one_refusal_earlier : One refusal-earlier.Post (λ r x. r)
one_refusal_earlier l a r s x y = unique

-- ---- words

pub one_pair : One pair.Post (λ r x. r)
one_pair l a r s x y = unique

pub one_word : One word.Post (λ r x. r)
one_word l a r s x y = unique

pub one_float_of : One float_of.Post (λ r x. r)
one_float_of l a r s x y = unique

pub one_pattern : One pattern.Post (λ r x. r)
one_pattern l a r s x y = unique

-- ---- layout

pub one_config_of : One config-of.Post (λ r x. r)
one_config_of l a r s x y = unique

pub one_counts_fit : One counts_fit_lem.Post (λ r x. r)
one_counts_fit l a r s x y = unique

pub one_layout_put_derived : One layout-put-derived.Post (λ r x. x.1.0.now)
one_layout_put_derived l a r s x y = unique

pub one_header_fits : One header-fits.Post (λ r x. r)
one_header_fits l a r s x y = unique

pub one_chunk_of : One Chunk-of.Post (λ r x. r)
one_chunk_of l a r s x y = unique

pub one_put_header : One put-header.Post (λ r x. x.1.1.0.now)
one_put_header l a r s x y = unique

pub one_put_chunk : BothLent put-chunk.Post (λ x. x.1.0.now) (λ x. x.1.1.0.now)
one_put_chunk l a r s x y = both

pub one_let_go : One let_go.Post (λ r x. x.0.now)
one_let_go l a r s x y = unique

pub one_state_fits : One state-fits.Post (λ r x. r)
one_state_fits l a r s x y = unique

pub one_state_of : One state-of.Post (λ r x. r)
one_state_of l a r s x y = unique

pub one_put_held : BothLent put-held.Post (λ x. x.1.1.1.0.now) (λ x. x.1.1.1.1.0.now)
one_put_held l a r s x y = both

pub one_trail_of : One trail-of.Post (λ r x. r)
one_trail_of l a r s x y = unique

pub one_put_trail : BothLent put-trail.Post (λ x. x.1.0.now) (λ x. x.1.1.0.now)
one_put_trail l a r s x y = both

pub one_marks_fit : One marks-fit.Post (λ r x. r)
one_marks_fit l a r s x y = unique

pub one_scores_of : One scores-of.Post (λ r x. r)
one_scores_of l a r s x y = unique

pub one_put_scores : BothLent put-scores.Post (λ x. x.1.0.now) (λ x. x.1.1.0.now)
one_put_scores l a r s x y = both

pub one_to_u8 : One to-u8.Post (λ r x. r)
one_to_u8 l a r s x y = unique

pub one_to_u16 : One to-u16.Post (λ r x. r)
one_to_u16 l a r s x y = unique

pub one_to_u32 : One to-u32.Post (λ r x. r)
one_to_u32 l a r s x y = unique

-- ---- card (the desk)

pub one_decode : One decode.Post (λ r x. r)
one_decode l a r s x y = unique

pub one_configure : One configure.Post (λ r x. r)
one_configure l a r s x y = unique

pub one_run : OneWithLent run.Post (λ x. x.1.0.now)
one_run l a r s x y = both

pub one_answer_of : One answer-of.Post (λ r x. r)
one_answer_of l a r s x y = unique

pub one_answer_block : OneWithLent answer-block.Post (λ x. x.1.1.0.now)
one_answer_block l a r s x y p q = (unique p.0 q.0, unique p.1 q.1)

-- ---- sample

pub one_agrees : One agrees.Post (λ r x. r)
one_agrees l a r s x y = unique
