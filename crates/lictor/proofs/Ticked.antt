-- The places after a tick: a refusal leaves them, and a tick that passes puts the module's answer there.
use Prim.Native.Nat.{ℕ, ◌≤◌, min}
use mathlib.Core.Path.{◌≡◌, refl, sym, ap, ◌∙◌}
use mathlib.Core.Bool.{Bool, true, false, ◌||◌}
use mathlib.Core.List.{List}
use native.Mathlib.Omega.{arith}
use borrow.Author.Tests.{eq-eqb, ne_eqb, le-leb}
use lib.ListN.{length}
use lib.Ieee.{Float, Format}
use Rattle.std.specs.Prelude.{if◌then◌else◌}
use Rattle.checked.specs.Each.{at, over}
use Rattle.checked.proofs.Copy.{all_pasted}
use Rattle.chunk.specs.Of.{held_of}
use Rattle.conformal.specs.Rule.{Tables}
use Rattle.conformal.specs.declared.Scores.{Scores}
use Rattle.envelope.specs.declared.FuseConfig.{FuseConfig}
use Rattle.chunk.specs.declared.Header.{Header}
use Rattle.tier1.specs.declared.Tier1Rt.{Tier1Rt}
use Rattle.tier1.specs.declared.TickOut.{TickOut}
use Rattle.tier1.specs.declared.Featured.{Featured}
use Rattle.tier1.specs.Of.{out_of, features_of}
use Rattle.tier1.proofs.Ticks.{passed_whole, rows_fit}
use Rattle.layout.specs.Chunk.{chunk_of, header_from, header_flat}
use Rattle.layout.specs.State.{held_marks, state_of}
use Rattle.layout.specs.Scores.{scores_flat, marks_flat}
use Rattle.lictor.specs.Answer.{fitting, FeaturedGiven}
use Rattle.lictor.specs.Asked.{rows_over}

-- a state's rows are the array they were taken from
pub state_rows : (l : List Float) (h : List ℕ) (p : List Float) (t : List ℕ) (f : List Float) (c : List ℕ) {rt : Tier1Rt} → rt ≡ state_of l h p t f c → rt.prev.«data» ≡ l
unfolding state_of chunk_of
state_rows l h p t f c e = rw e

-- a chunk's numbers, put over a buffer that has room
pub over_is : (d l : List Float) {e : List Float} → length d ≡ 512 → length l ≤ 512 → e ≡ over (at l) d (min (length l) (min (length l) (length d))) → e ≡ rows_over d l
over_is d l n h e = all_pasted d l (rw n h) e ∙ rw (le-leb (length l) 512 h)

-- the scores after a tick
abbrev scores_next : TickOut → Scores → Scores
scores_next a sc = record { f = a.f; z = sc.z; s = sc.s; valid = a.valid; fired = sc.fired }

-- without a misfit the number is the entry's
fitted : (g : Bool) (n : ℕ) → fitting g n ≡ 0 → n ≡ 0
fitted true n e = e
fitted false n e = absurd (omega arith)

module _ (f : Format) (c : FuseConfig) (tabs : Tables) (p ext : List Float) (k : Header) (rows : List Float) (rt : Tier1Rt) (sc : Scores) where
  pub refused_places : (there : Bool) {g : Bool} {a : TickOut} {n : ℕ} {d : List Float} {h : List ℕ} {v : List Float} {m : List ℕ} {s : List Float} {q : List ℕ}
      → a ≡ out_of (features_of f c tabs p ext there k rows rt sc) → n ≡ fitting g a.refusal.number → (n ≡ 0 → ⊥)
      → FeaturedGiven g there (features_of f c tabs p ext there k rows rt sc) n d d h h v v m m s s q q
  refused_places there {g} ea en z =
      let w : _ ≡ fitting g (features_of f c tabs p ext there k rows rt sc).refusal.number = rw ea at en in
      let v = ne_eqb _ _ (λ y. z (w ∙ y)) in
      record { number = w; rows = rw v; header = rw v; held = rw v; kept = rw v; scores = rw v; marks = rw v }

  rows_at : (t : Bool) {d : List Float} → (t ≡ true → length rows ≤ 512) → rt.prev.«data» ≡ d → (if t then rows_over d rows else d) ≡ (if t then held_of rt.prev k rows else rt.prev).«data»
  rows_at true f e = rw (le-leb (length rows) 512 (f refl), ← e)
  rows_at false f e = sym e

  header_at : (t : Bool) (h : List ℕ) → (if t then header_from k true else h) ≡ (if t then header_flat (if t then held_of rt.prev k rows else rt.prev) else h)
  header_at true h = refl
  header_at false h = refl

  pub passed_places : (there : Bool) {g : Bool} {a : TickOut} {n : ℕ} {d₀ d : List Float} {h₀ h : List ℕ} {v₀ v : List Float} {m₀ m : List ℕ} {s₀ s : List Float} {q₀ q : List ℕ}
      → a ≡ out_of (features_of f c tabs p ext there k rows rt sc) → n ≡ fitting g a.refusal.number → n ≡ 0
      → rt.prev.«data» ≡ d₀
      → (d ≡ (if there then rows_over d₀ rows else d₀)) × (h ≡ (if there then header_from k true else h₀))
      → (v ≡ a.held) × (m ≡ held_marks (there || rt.have_prev) a.held_valid)
      → (s ≡ scores_flat (scores_next a sc)) × (q ≡ marks_flat (scores_next a sc))
      → FeaturedGiven g there (features_of f c tabs p ext there k rows rt sc) n d₀ d h₀ h v₀ v m₀ m s₀ s q₀ q
  passed_places there {g} {a} {n} {d₀} {d} {h₀} ea en ez ed eb eh es =
      let w : n ≡ fitting g (features_of f c tabs p ext there k rows rt sc).refusal.number = rw ea at en in
      let y = fitted g (features_of f c tabs p ext there k rows rt sc).refusal.number (sym w ∙ ez) in
      let v = eq-eqb _ _ (sym w ∙ ez) in
      let x = passed_whole f c tabs p ext there k rows rt sc y in
      record {
        number = w;
        rows = rw v (eb.0 ∙ rows_at there (rows_fit f c tabs p ext there k rows rt sc y) ed ∙ sym (ap (λ (z : Featured). z.rt.prev.«data») x));
        header = rw v (eb.1 ∙ header_at there h₀ ∙ sym (ap (λ (z : Featured). if there then header_flat z.rt.prev else h₀) x));
        held = rw v (eh.0 ∙ ap (λ (z : TickOut). z.held) ea);
        kept = rw v (eh.1 ∙ ap (λ (z : TickOut). held_marks (there || rt.have_prev) z.held_valid) ea ∙ sym (ap (λ (z : Featured). held_marks z.rt.have_prev z.rt.held_valid) x));
        scores = rw v (es.0 ∙ ap (λ (z : TickOut). scores_flat (scores_next z sc)) ea ∙ sym (ap (λ (z : Featured). scores_flat z.scores) x));
        marks = rw v (es.1 ∙ ap (λ (z : TickOut). marks_flat (scores_next z sc)) ea ∙ sym (ap (λ (z : Featured). marks_flat z.scores) x));
      }
