-- The number for what is lent, from the number for each argument; and what is known of a call that is not refused by it.
use Prim.Native.Nat.{ℕ, ◌*◌, ◌≤◌}
use mathlib.Core.Path.{◌≡◌, refl, sym, ap, ◌∙◌}
use mathlib.Core.Bool.{Bool, true, false, not, ◌&&◌, ◌||◌}
use mathlib.Core.List.{List, [], ◌∷◌}
use native.Mathlib.Omega.{arith}
use borrow.Author.Tests.{eqb-true, not-false}
use lib.Dec.{eqb}
use lib.ListN.{length}
use lib.Ieee.{Float, Format}
use Rattle.refusal.specs.Order.{Reason, leftover, width, not_finite, ◌when◌, among, given, refusal, ◌or◌, earlier}
use Rattle.std.specs.Prelude.{if◌then◌else◌}
use Rattle.refusal.specs.Chain.{first_passes, both_pass}
use Rattle.refusal.proofs.Joint.{given_or, neither_applies}
use Rattle.fmath.specs.Answer.{some_not_finite}
use Rattle.checked.specs.Finite.{all_finite}
use Rattle.checked.proofs.Each.{neither}
use Rattle.chunk.specs.Refusals.{chunk_reasons, lent_reasons, held_reasons}
use Rattle.chunk.specs.Of.{held_refusal_of}
use Rattle.chunk.specs.declared.ChunkBuf.{ChunkBuf}
use Rattle.chunk.specs.declared.Header.{Header}
use Rattle.chunk.proofs.Judged as sizes
use Rattle.window.specs.Answer.{out_of_size, unfit, trail_reasons}
use Rattle.conformal.specs.Rule.{Tables}
use Rattle.conformal.specs.Refusals.{scores_ok}
use Rattle.conformal.specs.declared.Scores.{Scores}
use Rattle.envelope.specs.Refusals.{config_judged}
use Rattle.envelope.specs.declared.FuseConfig.{FuseConfig}
use Rattle.envelope.proofs.Accepted as config
use Rattle.tier1.specs.declared.Tier1Rt.{Tier1Rt}
use Rattle.tier1.specs.Refusals.{none, new_judged, prev_judged, state_judged, some_not_finite_in, lent_judged}
use Rattle.tier1.specs.Of.{judged}

-- ---- a new chunk

module _ (there : Bool) (k : Header) (n dim : ℕ) where
  pub none_new : there ≡ false → 0 ≡ given (new_judged there k n dim)
  none_new e = rw e

  pub new_is : there ≡ true → {s w r : ℕ} → s ≡ refusal (chunk_reasons k n) → w ≡ (if not (eqb k.dim dim) then 10 else 0) → r ≡ earlier s w → r ≡ given (new_judged there k n dim)
  new_is e es ew er =
      rw e (er ∙ rw (es, ew) (sym (given_or (among (chunk_reasons k n)) (among ((width when not (eqb k.dim dim)) ∷ [])))))

-- ---- the state

prev_number : (b : ChunkBuf) → held_refusal_of b ≡ given (prev_judged b)
unfolding held_refusal_of
prev_number b = go b.filled
  where
    go : (t : Bool) → (if t then refusal (held_reasons b.«data» b.header) else 0) ≡ given (if t then among (held_reasons b.«data» b.header) else none)
    go true = refl
    go false = refl

-- the number for a state, from the trail's two tests, the chunk before and the held features
pub state_is : (rt : Tier1Rt) {x y h : Bool} {a b p d v r : ℕ} → y ≡ unfit rt.trail → b ≡ (if y then 12 else 0) → x ≡ out_of_size rt.trail → a ≡ (if x then 1 else b)
    → p ≡ held_refusal_of rt.prev → h ≡ all_finite rt.held 6 → d ≡ (if not h then 12 else 0) → v ≡ earlier p d → r ≡ earlier a v → r ≡ given (state_judged rt)
state_is rt ey eb ex ea ep eh ed ev er =
    er ∙ rw (ev, ea, eb, ex, ey, ep, ed, eh, prev_number rt.prev)
    (sym (given_or (among (trail_reasons rt.trail)) (prev_judged rt.prev or among ((not_finite when not (all_finite rt.held 6)) ∷ []))
    ∙ ap (earlier (refusal (trail_reasons rt.trail))) (given_or (prev_judged rt.prev) (among ((not_finite when not (all_finite rt.held 6)) ∷ [])))))

-- ---- all that is lent

pub lent_is : (p ext : List Float) (there : Bool) (rows : List Float) (sc : Scores) {k l m n : Bool} → k ≡ all_finite p (length p) → l ≡ all_finite ext (length ext) → m ≡ all_finite rows (length rows) → n ≡ scores_ok sc
    → (not k || not l || (there && not m) || not n) ≡ some_not_finite_in p ext there rows sc
unfolding some_not_finite_in
lent_is p ext there rows sc ek el em en = rw (ek, el, em, en)

module _ (fm : Format) (c : FuseConfig) (tabs : Tables) (p ext : List Float) (there : Bool) (k : Header) (rows : List Float) (rt : Tier1Rt) (sc : Scores) where
  abbrev all_judged : Reason → Bool
  all_judged = judged fm c tabs p ext there k rows rt sc

  pub judged_is : {a b d e u v r : ℕ} {t : Bool} → a ≡ refusal (config_judged fm c tabs) → b ≡ given (new_judged there k (length rows) c.dim) → d ≡ given (state_judged rt) → t ≡ some_not_finite_in p ext there rows sc → e ≡ (if t then 12 else 0)
      → u ≡ earlier d e → v ≡ earlier b u → r ≡ earlier a v → r ≡ given all_judged
  judged_is ea eb ed et ee eu ev er =
      er ∙ rw (ev, eu, ea, eb, ed, ee, et)
      (sym (given_or (among (config_judged fm c tabs)) (new_judged there k (length rows) c.dim or (state_judged rt or lent_judged p ext there rows sc))
      ∙ ap (earlier (refusal (config_judged fm c tabs))) (given_or (new_judged there k (length rows) c.dim) (state_judged rt or lent_judged p ext there rows sc)
      ∙ ap (earlier (given (new_judged there k (length rows) c.dim))) (given_or (state_judged rt) (lent_judged p ext there rows sc)))))

  -- nothing that is lent is refused by 14
  pub no_leftover : all_judged leftover ≡ false
  no_leftover = go there rt.prev.filled
    where
      go : (t u : Bool) → ((if t then among (chunk_reasons k (length rows)) or among ((width when not (eqb k.dim c.dim)) ∷ []) else none) leftover || ((if u then among (held_reasons rt.prev.«data» rt.prev.header) else none) leftover || false || false)) ≡ false
      go true true = refl
      go true false = refl
      go false true = refl
      go false false = refl

-- ---- what is known of a call that is not refused by it

no_12 : (t : Bool) → ◌≡◌ {A = ℕ} (if t then 12 else 0) 0 → t ≡ false
no_12 true e = absurd (omega arith)
no_12 false e = refl

no_10 : (t : Bool) → ◌≡◌ {A = ℕ} (if t then 10 else 0) 0 → t ≡ false
no_10 true e = absurd (omega arith)
no_10 false e = refl

-- the chunk before lies in its buffer
prev_fits : (b : ChunkBuf) → given (prev_judged b) ≡ 0 → b.filled ≡ true → (b.header.horizon ≤ 64) × (b.header.horizon * b.header.dim ≤ 512)
prev_fits b e t =
    let n = b.header.horizon * b.header.dim in
    let z : refusal (held_reasons b.«data» b.header) ≡ 0 = rw t at e in
    let s = (both_pass (chunk_reasons b.header n) ((not_finite when not (all_finite b.«data» n)) ∷ []) z).0 in
    let w = sizes.sizes_accepted b.header n s in
    (w.not_long, sizes.accepted_fits w)

module _ (fm : Format) (c : FuseConfig) (tabs : Tables) (p ext : List Float) (there : Bool) (k : Header) (rows : List Float) (rt : Tier1Rt) (sc : Scores) {r : ℕ} (er : r ≡ given (judged fm c tabs p ext there k rows rt sc)) (ez : r ≡ 0) where
  parts : (refusal (config_judged fm c tabs) ≡ 0) × ((given (new_judged there k (length rows) c.dim) ≡ 0) × ((given (state_judged rt) ≡ 0) × (given (lent_judged p ext there rows sc) ≡ 0)))
  parts =
      let u = neither_applies (among (config_judged fm c tabs)) (new_judged there k (length rows) c.dim or (state_judged rt or lent_judged p ext there rows sc)) (sym er ∙ ez) in
      let v = neither_applies (new_judged there k (length rows) c.dim) (state_judged rt or lent_judged p ext there rows sc) u.1 in
      let w = neither_applies (state_judged rt) (lent_judged p ext there rows sc) v.1 in
      (u.0, (v.0, (w.0, w.1)))

  pub narrow : c.dim ≤ 8
  narrow = config.dim_most fm c tabs (config.accepted fm c tabs parts.0)

  rows_finite : there ≡ true → all_finite rows (length rows) ≡ true
  unfolding some_not_finite_in
  rows_finite t =
      let b = no_12 (some_not_finite p || some_not_finite ext || (there && some_not_finite rows) || not (scores_ok sc)) parts.1.1.1 in
      let d = (neither (some_not_finite p || some_not_finite ext || (there && some_not_finite rows)) (not (scores_ok sc)) b).0 in
      let g = (neither (some_not_finite p || some_not_finite ext) (there && some_not_finite rows) d).1 in
      not-false (all_finite rows (length rows)) (rw t at g)

  -- a new chunk could be filled in, and is as wide as dim
  pub new_fits : there ≡ true → (refusal (lent_reasons rows k) ≡ 0) × (k.dim ≡ c.dim)
  new_fits t =
      let g : given (among (chunk_reasons k (length rows)) or among ((width when not (eqb k.dim c.dim)) ∷ [])) ≡ 0 = rw t at parts.1.0 in
      let w = neither_applies (among (chunk_reasons k (length rows))) (among ((width when not (eqb k.dim c.dim)) ∷ [])) g in
      (first_passes (chunk_reasons k (length rows)) ((not_finite when some_not_finite rows) ∷ []) w.0 ∙ rw (rows_finite t), eqb-true k.dim c.dim (not-false (eqb k.dim c.dim) (no_10 (not (eqb k.dim c.dim)) w.1)))

  pub before_fits : rt.prev.filled ≡ true → (rt.prev.header.horizon ≤ 64) × (rt.prev.header.horizon * rt.prev.header.dim ≤ 512)
  before_fits =
      let u = neither_applies (among (trail_reasons rt.trail)) (prev_judged rt.prev or among ((not_finite when not (all_finite rt.held 6)) ∷ [])) parts.1.1.0 in
      let v = neither_applies (prev_judged rt.prev) (among ((not_finite when not (all_finite rt.held 6)) ∷ [])) u.1 in
      prev_fits rt.prev v.0
