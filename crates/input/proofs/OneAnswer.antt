-- Each public function has one answer: `answered` for each input, and `fill` for each reader, each input and what the system answered to its reads.
use mathlib.Core.Path.{◌≡◌, sym, ap, ◌∙◌}
use denote.RattleType.{RattleType}
use denote.Param.Laws.{Laws}
use mir.Syntax.{Dict}
use Rattle.std.specs.declared.io.traits.Read.{Ghosts}
use Rattle.input.specs.Reads.{after_all}
use Rattle.input.proofs.answered.Reads as answered
use Rattle.input.proofs.fill.Reads as fill

-- two answers that meet a contract with the same arguments are the same
abbrev One : {L A R E : Type 0} → (L → A → R → E → Type 0) → Type 0
One {L} {A} {R} {E} Post = (l : L) (a : A) (r s : R) (x y : E) → Post l a r x → Post l a s y → r ≡ s

-- two answers of which the contract tells the same are the same
abbrev OneTold : {L A R E B : Type 0} (Post : L → A → R → E → Type 0) → ((l : L) (a : A) (r : R) (x : E) → Post l a r x → B) → Type 0
OneTold {L} {A} {R} {E} Post told = (l : L) (a : A) (r s : R) (x y : E) (p : Post l a r x) (q : Post l a s y) → told l a r x p ≡ told l a s y q → r ≡ s

pub one_answered : One answered.Post
one_answered l a r s x y p q = p ∙ sym q

pub one_fill : (T : RattleType) (L : Laws T) (G : Ghosts T.Denot) (d : Dict) → OneTold (fill.Post T L G d) (λ l a r x p. p.0.told.answers)
one_fill T L G d l a r s x y p q e = p.0.told.is ∙ ap after_all e ∙ sym q.0.told.is
