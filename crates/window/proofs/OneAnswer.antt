-- One answer for each input, of `Window::push`. `clauses` is the contract as the prover takes it from the source: what it says of two states that
-- the lent window is left in, for the same arguments, together says that they are the same.
use mathlib.Core.Path.{◌≡◌, sym, ◌∙◌}
use seplogic.Ra.Ura.{Ura}
use base.Logic.{SProp, ent, via}
use prog.Memory.{Memory}
use prog.Routine.{Routine}
use types.Logic.{Logic}
use contract.Lifetimes.{Lfts}
use contract.Monad.{Fun, conj, conj_l, conj_r, fact, fact_use, fact_mono}
use denote.Triple.Entry.{Args, Res}
use denote.Triple.Clauses.{AtExit}
use Rattle.window.specs.contracts.Window.push as push

module _ {M : Type 1} {𝓤 : Ura M} (𝓛 : Logic 𝓤) (mem : Memory → SProp 𝓤) (run : Routine → Fun 𝓤) where
  pub one_window_push : (κs : Lfts (push.signature).lifetimes) (a : Args push.signature κs) (g : (push.clauses 𝓛 mem run κs a).ghost) (r s : Res push.signature κs) (x y : AtExit push.ended κs)
      → ent 𝓤 (conj 𝓤 ((push.clauses 𝓛 mem run κs a).ensures g r x) ((push.clauses 𝓛 mem run κs a).ensures g s y)) (fact 𝓤 (x.0.now ≡ y.0.now))
  one_window_push κs a g r s x y = fact_use 𝓤 _ (conj_l 𝓤 _ _) (λ p. via 𝓤 _ (conj_r 𝓤 _ _) (fact_mono 𝓤 _ _ (λ q. p ∙ sym q)))
