-- A chunk: what is known where nothing that is lent is refused, and the whole answer in each case.
use Rattle.std.specs.Prelude.{⊤, Err, Result}
use Prim.Native.Nat.{ℕ, ◌*◌, ◌≤◌, ◌<◌, min}
use mathlib.Core.Path.{◌≡◌, refl, ap, ◌∙◌}
use mathlib.Core.Bool.{Bool, true, false, not}
use mathlib.Core.List.{List, [], ◌∷◌, ◌++◌}
use native.Mathlib.Nat.{le_trans}
use native.Mathlib.Omega.{arith}
use borrow.Author.Tests.{ltb-false, eqb-true, not-false}
use lib.Dec.{ltb, eqb}
use lib.ListN.{length, replicate}
use lib.Ieee.{Float, Format}
use Rattle.refusal.specs.Order.{Judged, width, short, not_finite, computed, ◌when◌, refusal, or_later, judged_by, refused_for}
use Rattle.refusal.specs.Chain.{joined, both_pass, passes_at}
use Rattle.refusal.proofs.Entry.{Answered, by_lent, by-computed}
use Rattle.refusal.proofs.Entry as entry
use Rattle.refusal.specs.declared.Refusal.{Refusal}
use Rattle.fmath.specs.Answer.{some_lent_not_finite}
use Rattle.checked.specs.Each.{at, over}
use Rattle.checked.specs.Checked.{Checked}
use Rattle.checked.specs.Finite.{+0}
use Rattle.checked.proofs.Each.{neither}
use Rattle.checked.proofs.Copy.{all_put}
use Rattle.chunk.specs.Refusals.{chunk_reasons}
use Rattle.chunk.proofs.Judged.{Accepted, sizes_accepted, accepted_fits}
use Rattle.chunk.specs.declared.Header.{Header}
use Rattle.conformal.specs.Rule.{Tables}
use Rattle.envelope.specs.Refusals.{config_judged}
use Rattle.envelope.specs.declared.FuseConfig.{FuseConfig}
use Rattle.envelope.proofs.Accepted.{accepted, dim_most}
use Rattle.tier0.specs.declared.Tier0Out.{Tier0Out}
use Rattle.tier0.specs.declared.Checks.{Checks}
use Rattle.tier0.specs.declared.JudgedChunk.{JudgedChunk}
use Rattle.tier0.specs.Chunk.{check_chunk}
use Rattle.tier0.specs.Refusals.{chunk_too_short, passed_for, passed_with}
use Rattle.tier0.specs.Rule.{Judgement}
use Rattle.tier0.specs.Of.{checks_of, judged_chunk_from, lent_to_chunk, chunk_ruling, chunk_refusal, chunk_answer, chunk_out}

-- ---- what is known of an accepted call

pub record Sized (c : FuseConfig) (p rows : List Float) (h room : ℕ) : Type 0 where
  pub narrow : c.dim ≤ 8
  pub pos : c.pos_dim ≤ length p
  pub some : 0 < h
  pub few : h ≤ 64
  pub whole : length rows ≡ h * c.dim
  pub there : h * c.dim ≤ length rows
  pub small : h * c.dim ≤ 512
  pub out : h * c.dim ≤ room

-- the same of what the checks read
pub sized_checks : (f : Format) (c : FuseConfig) (p rows : List Float) (h room : ℕ) {s : Checks} → s ≡ checks_of f c → Sized c p rows h room
    → (s.dim ≤ 8) × (s.pos_dim ≤ length p) × (0 < h) × (h ≤ 64) × (h * s.dim ≤ length rows) × (h * s.dim ≤ 512)
unfolding checks_of
sized_checks f c p rows h room e w = rw e (w.narrow, w.pos, w.some, w.few, w.there, w.small)

-- ---- the whole answer

module _ (f : Format) (c : FuseConfig) (t : Tables) (p aux rows : List Float) (k : Header) where
  abbrev h : ℕ
  h = k.horizon

  abbrev broad : Bool
  broad = not (eqb k.dim c.dim)

  abbrev brief : ℕ → Bool
  brief room = chunk_too_short c.pos_dim (length p) (h * k.dim) room

  abbrev unfit : Bool
  unfit = some_lent_not_finite (p ∷ aux ∷ rows ∷ [])

  abbrev sizes : List Judged
  sizes = chunk_reasons k (length rows)

  abbrev lent : ℕ → List Judged
  lent room = lent_to_chunk c p aux rows k room []

  -- what is judged before anything is computed
  abbrev before : ℕ → List Judged
  before room = config_judged f c t ++ (sizes ++ lent room)

  pub before_is : (room : ℕ) {n s q i r : Result ⊤ Refusal} → n ≡ judged_by (refusal (config_judged f c t)) → s ≡ judged_by (refusal sizes) → q ≡ judged_by (refusal (lent room)) → i ≡ or_later s q → r ≡ or_later n i → r ≡ judged_by (refusal (before room))
  before_is room en es eq ei er = joined (config_judged f c t) (sizes ++ lent room) en (joined sizes (lent room) es eq ei) er

  known_sizes : (room : ℕ) → c.dim ≤ 8 → Accepted k (length rows) → k.dim ≡ c.dim → brief room ≡ false → Sized c p rows h room
  unfolding chunk_too_short
  known_sizes room narrow w ed g =
      let all_of : length rows ≡ h * c.dim = rw (← ed) w.all_there in
      let fits = accepted_fits w in
      let room_for : h * c.dim ≤ room = rw (← ed) (ltb-false _ _ (neither (ltb (length p) c.pos_dim) (ltb room (h * k.dim)) g).1) in
      record {
        narrow = narrow;
        pos = ltb-false _ _ (neither (ltb (length p) c.pos_dim) (ltb room (h * k.dim)) g).0;
        some = w.some_rows;
        few = w.not_long;
        whole = all_of;
        there = omega arith;
        small = omega arith;
        out = room_for;
      }

  pub accepted_sizes : (room : ℕ) → refusal (before room) ≡ 0 → Sized c p rows h room
  accepted_sizes room g =
      let config = both_pass (config_judged f c t) (sizes ++ lent room) g in
      let passed = both_pass sizes (lent room) config.1 in
      let unfit-last = (not_finite when unfit) ∷ [] in
      let wide = passes_at width (broad) ((short when brief room) ∷ unfit-last) passed.1 in
      known_sizes room (dim_most f c t (accepted f c t config.0)) (sizes_accepted k (length rows) passed.0) (eqb-true k.dim c.dim (not-false (eqb k.dim c.dim) wide.0)) (passes_at short (brief room) unfit-last wide.1).0

  abbrev ruling : Checked Judgement
  ruling = chunk_ruling f c p aux rows h

  module _ (l : List Float) where
    abbrev number : ℕ
    number = chunk_refusal f c t p aux rows k (length l)

    abbrev written : List Float
    written = over (at ruling.value.after.rows) l (h * c.dim)

    number_is : number ≡ refusal (before (length l) ++ ((computed when not ruling.sound) ∷ []))
    unfolding chunk_refusal
    number_is = refl

    whole : {r : Result Tier0Out Refusal} {m : List Float} → Answered Err (passed_for ruling.value) l written number r m
        → (r ≡ chunk_answer f c t p aux rows k (length l)) × (m ≡ chunk_out f c t p aux rows k l)
    unfolding chunk_answer chunk_out
    whole w = (w.gives, w.leaves)

    pub lent_refused : (n : ℕ) → n ≡ refusal (before (length l)) → (n ≡ 0 → ⊥) → {r : Refusal} → r ≡ refused_for n
        → (Err r ≡ chunk_answer f c t p aux rows k (length l)) × (l ≡ chunk_out f c t p aux rows k l)
    lent_refused n g y i = whole (by_lent Err (passed_for ruling.value) l written (before (length l)) ruling.sound number_is g y i)

    module _ (g : refusal (before (length l)) ≡ 0) {s : Checks} {v : JudgedChunk} {m z : List Float} (es : s ≡ checks_of f c) (em : m ≡ replicate 512 +0)
        (ev : (v ≡ judged_chunk_from (check_chunk f s p aux rows m h)) × (z ≡ (check_chunk f s p aux rows m h).value.after.rows)) where
      ruled : v ≡ judged_chunk_from ruling
      unfolding chunk_ruling
      ruled = ev.0 ∙ rw (es, em)

      ruled-rows : z ≡ ruling.value.after.rows
      unfolding chunk_ruling
      ruled-rows = ev.1 ∙ rw (es, em)

      sound_is : v.sound ≡ ruling.sound
      sound_is = ap (λ (x : JudgedChunk). x.sound) ruled

      pub not_sound : v.sound ≡ false → {r : Refusal} → r ≡ refused_for 13 → (Err r ≡ chunk_answer f c t p aux rows k (length l)) × (l ≡ chunk_out f c t p aux rows k l)
      not_sound y i = whole (by-computed Err (passed_for ruling.value) l written (before (length l)) ruling.sound number_is g sound_is y i)

      pub passes : v.sound ≡ true → {o : List Float} {n : ℕ} → o ≡ over (at z) l (min (h * c.dim) (min n (length l))) → 512 ≤ n
          → (passed_with v.trips v.mask v.peak v.walls ≡ chunk_answer f c t p aux rows k (length l)) × (o ≡ chunk_out f c t p aux rows k l)
      passes y i b =
          let w = accepted_sizes (length l) g in
          let whole-rows = all_put l z (le_trans w.small b) w.out i in
          whole (entry.accepted Err (passed_for ruling.value) l written (before (length l)) ruling.sound number_is g sound_is y (rw ruled) (whole-rows ∙ rw ruled-rows))
