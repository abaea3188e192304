-- One answer for each input, of the functions that take or give a view, and of `row_mut`. `clauses` is the contract as the prover takes it from the source: what it says of one
-- answer and what it says of another, for the same arguments, together say that the two are the same. A view is the same where its header is and the rows that it shows.
use mathlib.Core.Path.{◌≡◌, sym, ◌∙◌}
use mathlib.Core.List.{List}
use lib.Ieee.{Float}
use seplogic.Ra.Ura.{Ura}
use base.Logic.{SProp, ent, via}
use prog.Memory.{Memory}
use prog.Routine.{Routine}
use types.Logic.{Logic}
use contract.Lifetimes.{Lfts}
use contract.Monad.{Fun, conj, conj_l, conj_r, fact, fact_use, fact_mono}
use denote.Triple.Entry.{Args, Res}
use denote.Triple.Clauses.{Ended, Clauses, AtExit}
use Rattle.chunk.specs.declared.ChunkView.{ChunkView}
use Rattle.chunk.specs.declared.Header.{Header}
use Rattle.chunk.proofs.row_mut.Reads as row-mut
use Rattle.chunk.specs.contracts.view as view
use Rattle.chunk.specs.contracts.view_held as view-held
use Rattle.chunk.specs.contracts.ChunkBuf.view as buffer-view
use Rattle.chunk.specs.contracts.ChunkBuf.copy_from as copy-from
use Rattle.chunk.specs.contracts.ChunkView.action as view-action

-- an equation admits no second answer
unique : {A : Type 0} {a b c : A} → a ≡ c → b ≡ c → a ≡ b
unique p q = p ∙ sym q

-- a view has this header, and shows these rows
abbrev Has : ChunkView → Header → List Float → Type 0
Has v k l = (v.header ≡ k) × (v.«data».now ≡ l)

-- a view has the header of another, and shows its rows
abbrev pub Same : ChunkView → ChunkView → Type 0
Same v w = Has v w.header w.«data».now

same : (v w : ChunkView) {k : Header} {l : List Float} → Has v k l → Has w k l → Same v w
same v w p q = (unique p.0 q.0, unique p.1 q.1)

-- the part that is handed out to be written: its numbers, and the place where it lies
abbrev OnePart : {L A R E : Type 0} → (L → A → R → E → Type 0) → (R → R → Type 0) → Type 0
OnePart {L} {A} {R} {E} Post alike = (l : L) (a : A) (r s : R) (x y : E) → Post l a r x → Post l a s y → alike r s

pub one_row_mut : OnePart row-mut.Post (λ r s. (r.now ≡ s.now) × (r.ref_ptr ≡ s.ref_ptr))
one_row_mut l a r s x y p q = (unique p.0 q.0, unique p.1 q.1)

module _ {M : Type 1} (𝓤 : Ura M) where
  -- two facts say what follows from both
  together : (φ ψ χ : Type 0) → (φ → ψ → χ) → ent 𝓤 (conj 𝓤 (fact 𝓤 φ) (fact 𝓤 ψ)) (fact 𝓤 χ)
  together φ ψ χ f = fact_use 𝓤 φ (conj_l 𝓤 (fact 𝓤 φ) (fact 𝓤 ψ)) (λ p. via 𝓤 (fact 𝓤 ψ) (conj_r 𝓤 (fact 𝓤 φ) (fact 𝓤 ψ)) (fact_mono 𝓤 ψ χ (f p)))

  -- what a contract says of two answers r and s, the arguments being x and y as the function returns, says that they are alike
  abbrev One : (T : Ended) → Clauses 𝓤 T → ((κs : Lfts T.signature.lifetimes) → Res T.signature κs → Res T.signature κs → Type 0) → Type 1
  One T c alike = (κs : Lfts T.signature.lifetimes) (a : Args T.signature κs) (g : (c κs a).ghost) (r s : Res T.signature κs) (x y : AtExit T κs)
      → ent 𝓤 (conj 𝓤 ((c κs a).ensures g r x) ((c κs a).ensures g s y)) (fact 𝓤 (alike κs r s))

module _ {M : Type 1} {𝓤 : Ura M} (𝓛 : Logic 𝓤) (mem : Memory → SProp 𝓤) (run : Routine → Fun 𝓤) where
  pub one_view : One 𝓤 view.ended (view.clauses 𝓛 mem run) (λ κs r s. r ≡ s)
  one_view κs a g r s x y = together 𝓤 _ _ _ unique

  pub one_copy_from : One 𝓤 copy-from.ended (copy-from.clauses 𝓛 mem run) (λ κs r s. r ≡ s)
  one_copy_from κs a g r s x y = together 𝓤 _ _ _ unique

  pub one_view_action : One 𝓤 view-action.ended (view-action.clauses 𝓛 mem run) (λ κs r s. r.now ≡ s.now)
  one_view_action κs a g r s x y = together 𝓤 _ _ _ unique

  pub one_view_held : One 𝓤 view-held.ended (view-held.clauses 𝓛 mem run) (λ κs r s. Same r s)
  one_view_held κs a g r s x y = together 𝓤 _ _ _ (same r s)

  pub one_buffer_view : One 𝓤 buffer-view.ended (buffer-view.clauses 𝓛 mem run) (λ κs r s. Same r s)
  one_buffer_view κs a g r s x y = together 𝓤 _ _ _ (same r s)
